-- `arcs::find_arc` halves what is left. The loop: from what is left the rule goes on to what it comes to from the whole range. Assumes nothing.
use Prim.Native.Nat.{ℕ}
use native.Mathlib.Omega.{arith}
use mathlib.Core.Path.{◌≡◌, sym, subst}
use mathlib.Core.List.{List}
use Rattle.std.proofs.lemmas.Bool.Decides.{nat_tests}
use Rattle.terms.specs.Network.{below}
use Rattle.star.specs.Search.{Sought, record_at, middle, is_arc, seek, Finds}
use Rattle.star.proofs.SearchLaws.{seeking, seek_here, seek_behind, seek_before, seek_end, seek_finds}
use Rattle.star.proofs.arcs.find_arc.Goals as goal

-- what the rule comes to, in the words of the contract
comes_to : {ts hs : List ℕ} {x : ℕ × ℕ} {from to : ℕ} {s : Sought} → s ≡ seek ts hs x from to → (s ≡ seek ts hs x from to) × Finds ts hs x from to s
comes_to {ts} {hs} {x} {from} {to} e = (e, subst (λ s. Finds ts hs x from to s) (sym e) (seek_finds ts hs x from to))

pub loop-left-init : goal.loop-left-init
loop-left-init c = rw c.saturating_sub-left.ensures seeking

pub returns-then-eq : goal.returns-then-eq
unfolding is_arc
returns-then-eq c =
    let both = comes_to (seek_here c.loop-left.invariant c.loop-left-test.true c.eq.ensures c.if-eq.true) in
    record { by_halving = both.0; finds = both.1 }

pub loop-left-preserved-then-lt : goal.loop-left-preserved-then-lt
unfolding is_arc below
loop-left-preserved-then-lt c =
    let low : c.lt.result ≡ below (record_at c.args.tails.now c.args.heads.now (middle c.loop-left.first c.loop-left.left)) c.args.arc = grind (arith, nat_tests, c.lt.ensures) in
    seek_behind c.loop-left.invariant c.loop-left-test.true c.eq.ensures c.if-eq.false low c.if-lt.true

pub loop-left-preserved : goal.loop-left-preserved
unfolding is_arc below
loop-left-preserved c =
    let low : c.lt.result ≡ below (record_at c.args.tails.now c.args.heads.now (middle c.loop-left.first c.loop-left.left)) c.args.arc = grind (arith, nat_tests, c.lt.ensures) in
    seek_before c.loop-left.invariant c.loop-left-test.true c.eq.ensures c.if-eq.false low c.if-lt.false

pub returns : goal.returns
returns c =
    let both = comes_to (seek_end c.loop-left.invariant c.loop-left-test.false) in
    record { by_halving = both.0; finds = both.1 }
