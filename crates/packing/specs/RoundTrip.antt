-- docs/REFERENCE.md, section 9.2, (b) and (c): an image written from lists reads back as these lists, and the lists of an accepted image write that image again. Assumes nothing.
use Rattle.std.specs.Prelude.{ℕ, ◌≤◌, ◌≡◌, List, [], ◌∷◌, length}
use Rattle.image.specs.Outcome.{gives}
use Rattle.image.specs.Layout.{edition, node_count, column_count, node_list, cost_list, half, image_of}
use Rattle.image.specs.Calls.{check_outcome}
use Rattle.packing.specs.Calls.{build_outcome}

-- the image of edition e of these lists is accepted with their sizes and this edition, and reads back as them
pub record ReadsBack (e n k : ℕ) (nodes costs : List ℕ) : Type 0 where
  pub sizes_back : check_outcome (image_of e n k nodes costs) ≡ gives (n ∷ half nodes ∷ k ∷ e ∷ [])
  pub nodes_back : node_list (image_of e n k nodes costs) ≡ nodes
  pub costs_back : cost_list (image_of e n k nodes costs) ≡ costs

-- the lists of this image build, in its edition, an image of its length, byte for byte this one
pub record WritesAgain (b : List ℕ) : Type 0 where
  pub built_again : (room : ℕ) → length b ≤ room → build_outcome (edition b) (node_count b) (column_count b) (node_list b) (cost_list b) room ≡ gives (length b ∷ [])
  pub same_image : image_of (edition b) (node_count b) (column_count b) (node_list b) (cost_list b) ≡ b
