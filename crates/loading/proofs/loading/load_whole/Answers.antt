-- `loading::load_whole`: an empty map closes nothing. Assumes nothing.
use Rattle.loading.proofs.LoadLaws.{loaded_all}
use Rattle.loading.proofs.loading.load_whole.Goals as goal

pub returns : goal.returns
returns c = (c.load_left.ensures.0, loaded_all c.load_left.ensures.1)
