-- The search among all records of an accepted image, which rise. Assumes nothing.
use Prim.Native.Nat.{ℕ}
use native.Mathlib.Omega.{arith}
use mathlib.Core.Path.{◌≡◌, refl, sym, ◌∙◌, ap, ap₂}
use mathlib.Core.List.{List}
use lib.ListN.{length, length-map, get_or-map}
use Rattle.terms.specs.Lists.{numbers}
use Rattle.terms.proofs.ListLaws.{length_numbers}
use Rattle.terms.specs.Network.{Net, Admitted}
use Rattle.image.specs.Outcome.{sound, gives}
use Rattle.image.specs.Layout.{net_of}
use Rattle.image.specs.declared.check.Sizes.{Sizes}
use Rattle.image.specs.Calls.{image_fault}
use Rattle.image.proofs.OutcomeLaws.{outcome_sound}
use Rattle.image.proofs.NetworkLaws.{accepted_network}
use Rattle.star.specs.Search.{Sought, seek, Among, Rising}
use Rattle.star.specs.Found.{sought}
use Rattle.star.specs.declared.arcs.Sought as found
use Rattle.std.specs.Prelude.{Option, Some, None, MatchOption, IsSomeAnd}
use Rattle.arc_calls.specs.Answers.{sought_list}
use Rattle.star.proofs.SearchLaws.{below_of, seek_finds}
use Rattle.loading.specs.Accepted.{Accepted}
use Rattle.loading.specs.Selected.{selected}
use Rattle.loading.proofs.SelectLaws.{selected_all}
use Rattle.loading.proofs.DecodeLaws.{tails, heads, admitted, arcs_decoded}
use Rattle.arc_calls.specs.Calls.{find_of, find_values, find_outcome, Stands, FindsArc}

module _ {e : ℕ} {net : Net} (ok : Admitted e net) where
  rising : Rising (tails net.arcs) (heads net.arcs) 0 (length net.arcs)
  rising =
      let d = arcs_decoded ok in
      record { rises = λ i j lo h hi. below_of _ _ _ _ (d.tails_rise i j h (rw length-map hi)) (d.heads_rise i j h (rw length-map hi)) }

-- the tail and the head at an index are those of its record
module _ (arcs : List (ℕ × ℕ)) {x : ℕ × ℕ} {i : ℕ} where
  stands : Among (tails arcs) (heads arcs) x 0 (length arcs) i → Stands arcs x i
  stands m = record {
    below = m.upto;
    is = ap₂ (λ (t h : ℕ). (t, h)) (sym (get_or-map (λ (a : ℕ × ℕ). a.0) arcs i (0, 0)) ∙ m.tail_is) (sym (get_or-map (λ (a : ℕ × ℕ). a.1) arcs i (0, 0)) ∙ m.head_is);
  }

  among : Stands arcs x i → Among (tails arcs) (heads arcs) x 0 (length arcs) i
  among s = record {
    from = omega arith;
    upto = s.below;
    tail_is = get_or-map (λ (a : ℕ × ℕ). a.0) arcs i (0, 0) ∙ ap (λ (a : ℕ × ℕ). a.0) s.is;
    head_is = get_or-map (λ (a : ℕ × ℕ). a.1) arcs i (0, 0) ∙ ap (λ (a : ℕ × ℕ). a.1) s.is;
  }

pub finds_arc : (b : List ℕ) (tail head : ℕ) → image_fault b ≡ sound → FindsArc (net_of b).arcs (tail, head) (find_of b tail head)
unfolding find_of
finds_arc b tail head e =
    let net = net_of b in
    let ok = accepted_network b e in
    let f = seek_finds (tails net.arcs) (heads net.arcs) (tail, head) 0 (length net.arcs) in
    record {
      index_right = λ i p. stands net.arcs (f.index_right i p);
      index_found = λ i s. f.index_found (rising ok) i (among net.arcs s);
      none_right = λ p i s. f.none_right (rising ok) p i (among net.arcs s);
      none_found = λ no. f.none_found (λ i m. no i (stands net.arcs m));
      few = f.few (omega (arith, ok.arcs_to));
    }

-- ---- the search in what was read at all indices
pub sought_in : {b : List ℕ} {z : Sizes} → Accepted b z → (tail head : ℕ) {ks ts hs : List ℕ} {s : Sought} → ks ≡ numbers 0 z.m → ts ≡ tails (selected ks (net_of b)).arcs → hs ≡ heads (selected ks (net_of b)).arcs → s ≡ seek ts hs (tail, head) 0 (length ks) → s ≡ find_of b tail head
unfolding find_of
sought_in {b} {z} a tail head {ks} all e f r =
    let same : selected ks (net_of b) ≡ net_of b = ap (λ k. selected k (net_of b)) all ∙ selected_all (admitted a) a.arcs_are in
    let long : length ks ≡ length (net_of b).arcs = ap length all ∙ length_numbers 0 z.m ∙ a.arcs_are in
    r ∙ ap₂ (λ (t h : List ℕ). seek t h (tail, head) 0 (length ks)) (e ∙ ap (λ x. tails x.arcs) same) (f ∙ ap (λ x. heads x.arcs) same) ∙ ap (λ (m : ℕ). seek (tails (net_of b).arcs) (heads (net_of b).arcs) (tail, head) 0 m) long

-- ---- Find's values
-- what `map` gives with a function that keeps the number
pub mapped : (o r : Option ℕ) {P : ℕ → ℕ → Type 0} → ((x y : ℕ) → P x y → y ≡ x) → MatchOption o (r ≡ None) (λ x. IsSomeAnd r (P x)) → r ≡ o
mapped None r same h = h
mapped (Some x) None same h = absurd h
mapped (Some x) (Some y) same h = ap Some (same x y h)

module _ (b : List ℕ) (tail head : ℕ) {s : found.Sought} (ok : image_fault b ≡ sound) (e : sought s ≡ find_of b tail head) where
  values : gives (find_values (sought s)) ≡ find_outcome b tail head
  unfolding find_outcome
  values = ap (λ (r : Sought). gives (find_values r)) e ∙ sym (outcome_sound _ ok)

  -- the values, with the index that a `map` has taken over
  pub taken_values : {o : Option ℕ} → o ≡ s.arc → gives (sought_list o s.looks) ≡ find_outcome b tail head
  unfolding find_values
  taken_values {o = o} e = listed o ∙ ap (λ (o : Option ℕ). gives (find_values (o, s.looks))) e ∙ values
    where
      listed : (o : Option ℕ) → gives (sought_list o s.looks) ≡ gives (find_values (o, s.looks))
      listed None = refl
      listed (Some index) = refl
