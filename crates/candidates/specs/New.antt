-- An entry that is put in. Assumes nothing.
use Rattle.candidates.specs.Slots.{Entry, entry}
use Rattle.candidates.specs.declared.insertion.NewEntry.{NewEntry}

abbrev pub written : NewEntry → Entry
written e = entry e.cost e.shared e.parent e.tail.now
