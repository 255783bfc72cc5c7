-- What Shortest's path says. Assumes nothing.
use Rattle.std.specs.Prelude.{List, [], ◌∷◌, ℕ}
use Rattle.column_calls.specs.declared.shortest.Path.{Path}

-- length and cost
abbrev pub path_list : Path → List ℕ
path_list p = p.length ∷ p.cost ∷ []
