-- The entries in a workspace, and their routes. Assumes nothing.
use Rattle.std.specs.Prelude.{ℕ, List}
use Rattle.terms.specs.Paths.{Route}
use Rattle.candidates.specs.Slots.{Entry, entry_at, entries}
use Rattle.candidates.specs.Routes.{route_at}
use Rattle.candidates.specs.declared.slots.Entries.{Entries}

-- the entry at place p
abbrev pub entry_in : Entries → ℕ → Entry
entry_in e p = entry_at e.nodes e.work.now p

-- all of them
abbrev pub listed : Entries → List Entry
listed e = entries e.nodes e.work.now e.count

-- the route of the entry at place p, for routes from s
abbrev pub route_in : ℕ → Entries → ℕ → Route
route_in s e p = route_at s e.nodes e.work.now p
