-- A star that is put together from its parts has them. Assumes nothing.
use Prim.Native.Nat.{ℕ, ◌+◌, ◌-◌, ◌*◌}
use native.Mathlib.Omega.{arith}
use mathlib.Core.Path.{◌≡◌, sym, ◌∙◌, ap}
use mathlib.Core.List.{List, ◌++◌, append_assoc}
use lib.ListN.{length, take, length-append}
use lib.Seq.{take_at, drop_at, take_all}
use Rattle.star.specs.Layout.{part, tails_of, heads_of, nexts_of, outs_of, ins_of}

-- what stands between two lists
between : (l mid r : List ℕ) (a e : ℕ) → a ≡ length l → e ≡ length l + length mid → part a e (l ++ mid ++ r) ≡ mid
between l mid r a e p q =
    let z : length mid ≡ e - a = omega arith in
    rw (append_assoc l mid r, drop_at l (mid ++ r) a (sym p)) (take_at mid r (e - a) z)

-- ---- the parts of a star
module _ {k m : ℕ} (ts hs ns os is : List ℕ) (ts-long : length ts ≡ m) (hs_long : length hs ≡ m) (ns-long : length ns ≡ m) (os-long : length os ≡ k + 1) (is-long : length is ≡ k) where
  abbrev all : List ℕ
  all = ts ++ hs ++ ns ++ os ++ is

  pub star_long : length all ≡ 3 * m + k + 1 + k
  star_long = omega (arith, length-append (ts ++ hs ++ ns ++ os) is, length-append (ts ++ hs ++ ns) os, length-append (ts ++ hs) ns, length-append ts hs)

  pub tails_are : tails_of m all ≡ ts
  unfolding tails_of
  tails_are = ap (take m) (append_assoc (ts ++ hs ++ ns) os is ∙ append_assoc (ts ++ hs) ns (os ++ is) ∙ append_assoc ts hs (ns ++ (os ++ is))) ∙ take_at ts (hs ++ (ns ++ (os ++ is))) m ts-long

  pub heads_are : heads_of m all ≡ hs
  unfolding heads_of
  heads_are = ap (part m (2 * m)) (append_assoc (ts ++ hs ++ ns) os is ∙ append_assoc (ts ++ hs) ns (os ++ is)) ∙ between ts hs (ns ++ (os ++ is)) m (2 * m) (sym ts-long) (omega arith)

  pub nexts_are : nexts_of m all ≡ ns
  unfolding nexts_of
  nexts_are = ap (part (2 * m) (3 * m)) (append_assoc (ts ++ hs ++ ns) os is) ∙ between (ts ++ hs) ns (os ++ is) (2 * m) (3 * m) (omega (arith, length-append ts hs)) (omega (arith, length-append ts hs))

  pub outs_are : outs_of k m all ≡ os
  unfolding outs_of
  outs_are =
      let l = length-append (ts ++ hs) ns in
      let l' = length-append ts hs in
      between (ts ++ hs ++ ns) os is (3 * m) (3 * m + k + 1) (omega arith) (omega arith)

  pub ins_are : ins_of k m all ≡ is
  unfolding ins_of
  ins_are =
      let long : length (ts ++ hs ++ ns ++ os) ≡ 3 * m + k + 1 = omega (arith, length-append (ts ++ hs ++ ns) os, length-append (ts ++ hs) ns, length-append ts hs) in
      ap (take (length all - (3 * m + k + 1))) (drop_at (ts ++ hs ++ ns ++ os) is (3 * m + k + 1) long) ∙ take_all (length all - (3 * m + k + 1)) is (omega (arith, star_long))
