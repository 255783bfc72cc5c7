-- The network of an accepted image. Assumes nothing.
use Rattle.terms.specs.Network.{Net}
use Rattle.image.specs.Layout.{net_of}
use Rattle.loading.specs.declared.network.Network.{Network}

-- what the image means
abbrev pub net : Network → Net
net network = net_of network.image.now
