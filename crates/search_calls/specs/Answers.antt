-- What Search's answer says. Assumes nothing.
use Rattle.std.specs.Prelude.{List, [], ◌∷◌, ℕ}
use Rattle.search_calls.specs.declared.deciding.Found.{Found}

-- length, figure, worst column and the arcs tried
abbrev pub found_list : Found → List ℕ
found_list f = f.length ∷ f.figure ∷ f.worst ∷ f.tried ∷ []
