-- What Find's answer says. Assumes nothing.
use Rattle.std.specs.Prelude.{List, [], ◌∷◌, ℕ, Option, Some, None}
use Rattle.arc_calls.specs.declared.find.Found.{Found}

-- found or not, 1 or 0; the index, 0 if there is none; the number of records looked at
abbrev pub sought_list : Option ℕ → ℕ → List ℕ
sought_list (Some index) looks = 1 ∷ index ∷ looks ∷ []
sought_list None looks = 0 ∷ 0 ∷ looks ∷ []

abbrev pub found_list : Found → List ℕ
found_list f = sought_list f.index f.looks
