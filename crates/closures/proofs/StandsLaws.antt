-- A settled answer stands where paths are taken away, if its own is left, and the deviations, figures and order of those that are left stay.
-- Assumes nothing.
use Prim.Native.Nat.{ℕ, suc, ◌≤◌, ◌<◌}
use native.Mathlib.Omega.{arith}
use native.Mathlib.Nat.{eq-or-lt_of_le, le_antisymm}
use mathlib.Core.Path.{◌≡◌, sym, ◌∙◌, ap}
use mathlib.Core.Bool.{true}
use mathlib.Core.Logic.{inl, inr, ⊎_elim}
use mathlib.Core.List.{[]}
use lib.ListN.{length, get_or, take, length-take}
use lib.Seq.{take_all}
use Rattle.terms.specs.Lists.{◌∈◌}
use Rattle.terms.specs.Paths.{Route}
use Rattle.terms.specs.Ranking.{before}
use Rattle.terms.specs.Robust.{Answer, settled, least_figure, needed, choice}
use Rattle.terms.specs.Demand3.{Contest, Settled, Open, Demand, none, closed, unsettled}
use Rattle.terms.proofs.ListLaws.{get_or_mem, mem_place, take_mem}
use Rattle.terms.proofs.RankingLaws.{Rising, NoLater, before_trans, before_or_no_later, rising_at, rising_earlier, rising_split, rising_same}
use Rattle.terms.proofs.RobustLaws.{Chosen, choice_chosen, least_figure_le}
use Rattle.terms.proofs.DemandLaws.{Ranks, path_needs}
use Rattle.closures.proofs.RisingLaws.{before_no_later, no_later_trans, take_rising, rising_fits}

-- the paths of c are paths of d, with the same deviation, figure and worst column, and in the same order
pub record Fewer (c d : Contest) : Type 0 where
  pub inside : (p : Route) → c.admits p → d.admits p
  pub same_order : (p q : Route) → c.admits p → c.admits q → before c.graph p q ≡ before d.graph p q
  pub same_dev : (p : Route) → c.admits p → c.dev p ≡ d.dev p
  pub same_fig : (p : Route) → c.admits p → c.fig p ≡ d.fig p
  pub same_wst : (p : Route) → c.admits p → c.wst p ≡ d.wst p

module _ (c d : Contest) (rc : Ranks c) (rd : Ranks d) (fewer : Fewer c d) (K : ℕ) (K-lo : 1 ≤ K) where
  -- the list of c, which rises in the order of d too, has members of the list of d
  rising : Rising d.graph c.ranking
  rising = rising_same (λ p q m n. fewer.same_order p q (rc.listed p m) (rc.listed q n)) rc.rising

  in_both : (p : Route) → p ∈ c.ranking → p ∈ d.ranking
  in_both p m = rd.lists p (fewer.inside p (rc.listed p m))

  no_earlier : (p q : Route) → NoLater d.graph p q → d.dev p ≤ d.dev q
  no_earlier p q (inl e) = omega (arith, ap d.dev e)
  no_earlier p q (inr b) = rd.climbs p q b

  -- ---- the rule needs no more than K paths: each of the first K + 1 would be among the n that d needs, or it held at K
  module _ {p : Route} {f w n : ℕ} (old : Settled d K p f w n) (left : c.admits p) where
    -- the least figure among the n that d needs is at least f, and more if p is no earlier than the next
    holder : Chosen d.fig d.ranking n (choice d.fig d.ranking n)
    holder = choice_chosen d.fig d.ranking n old.count_needed.one_at_least (omega (arith, old.count_needed.one_at_least, old.count_needed.all_at_most))

    admitted : d.admits (choice d.fig d.ranking n)
    admitted = rd.listed (choice d.fig d.ranking n) (rw holder.at_place (get_or_mem d.ranking [] holder.place holder.within))

    least_from : f ≤ least_figure d.fig d.ranking n
    least_from = omega (arith, old.least (choice d.fig d.ranking n) admitted, holder.has_least)

    least_above : n < length d.ranking → NoLater d.graph (get_or d.ranking n []) p → f < least_figure d.fig d.ranking n
    least_above h l =
        omega (arith, old.earliest (choice d.fig d.ranking n) admitted (rw holder.at_place (before_no_later d.graph (get_or d.ranking holder.place []) (rising_at d.graph holder.place n rd.rising holder.counted h) l)), holder.has_least)

    never_open : {p' : Route} {f' w' n' b' : ℕ} → Open c K p' f' w' n' b' → ⊥
    never_open new = ⊎_elim used (λ h. ⊎_elim used (beyond h) old.count_needed.holds) (eq-or-lt_of_le old.count_needed.all_at_most)
      where
        kth : Route
        kth = get_or c.ranking K []

        nth : Route
        nth = get_or d.ranking n []

        kth_path : c.admits kth
        kth_path = rc.listed kth (get_or_mem c.ranking [] K new.one_more)

        going : c.dev kth < least_figure c.fig c.ranking K
        going = let stop = path_needs c rc (rc.lists p left) in stop.not_before K K-lo (new.needs_more (needed c.dev c.fig c.ranking) stop)

        too_many : ((x : Route) → x ∈ take (suc K) c.ranking → x ∈ take n d.ranking) → ⊥
        too_many i =
            omega (arith, rising_fits d.graph (take_rising d.graph (suc K) rising) (take_rising d.graph n rd.rising) i, length-take (suc K) c.ranking, length-take n d.ranking, new.one_more, old.count_within)

        used : n ≡ length d.ranking → ⊥
        used e = too_many (λ x m. rw (take_all n d.ranking (omega arith)) (in_both x (take_mem (suc K) c.ranking m)))

        upto : (x : Route) → x ∈ take (suc K) c.ranking → before d.graph kth nth ≡ true → before d.graph x nth ≡ true
        upto x m b =
            let i = mem_place (suc K) c.ranking [] m in
            ⊎_elim (λ e. ap (λ z. before d.graph z nth) (i.3 ∙ ap (λ k. get_or c.ranking k []) e) ∙ b) (λ l. rw i.3 (before_trans d.graph (get_or c.ranking i.0 []) kth nth (rising_at d.graph i.0 K rising l new.one_more) b))
            (eq-or-lt_of_le {n = i.0} {m = K} (omega (arith, i.1)))

        beyond : n < length d.ranking → least_figure d.fig d.ranking n ≤ d.dev nth → ⊥
        beyond h rule =
            ⊎_elim (λ b. too_many (λ x m. rising_earlier d.graph n rd.rising h (in_both x (take_mem (suc K) c.ranking m)) (upto x m b))) (λ l. ⊎_elim (counted l) (later l) (rising_split d.graph K rising new.one_more (rc.lists p left)))
            (before_or_no_later d.graph kth nth)
          where
            counted : NoLater d.graph nth kth → p ∈ take K c.ranking → ⊥
            counted l m = omega (arith, going, least_figure_le c.fig c.ranking K m, fewer.same_fig p left, old.own_figure, fewer.same_dev kth kth_path, no_earlier nth kth l, least_from)

            later : NoLater d.graph nth kth → NoLater d.graph kth p → ⊥
            later l k =
                omega (arith, no_earlier nth kth l, no_earlier kth p k, rd.no_more p (rd.lists p old.is_path), old.own_figure, least_above h (no_later_trans d.graph l k))

    -- ---- and a settled answer is the same: each figure is at most the other, and so neither path comes before the other
    same_figure : {p' : Route} {f' w' n' : ℕ} → Settled c K p' f' w' n' → f' ≡ f
    same_figure {p'} new =
        le_antisymm
        (omega (arith, new.least p left, fewer.same_fig p left, old.own_figure))
        (omega (arith, old.least p' (fewer.inside p' new.is_path), fewer.same_fig p' new.is_path, new.own_figure))

    same_path : {p' : Route} {f' w' n' : ℕ} → Settled c K p' f' w' n' → p' ≡ p
    same_path {p'} new =
        let inner = fewer.inside p' new.is_path in
        ⊎_elim (λ b. absurd (omega (arith, old.earliest p' inner b, fewer.same_fig p' new.is_path, new.own_figure, same_figure new)))
        (λ l. ⊎_elim (λ e. e) (λ b. absurd (omega (arith, new.earliest p left (fewer.same_order p p' left new.is_path ∙ b), fewer.same_fig p left, old.own_figure, same_figure new))) l)
        (before_or_no_later d.graph p' p)

    -- so the answer stands
    pub stands : {a : Answer} → Demand c K a → (m : ℕ) × (a ≡ settled p f w m)
    stands (none h) = absurd (h p left)
    stands (closed {p = p'} {f = f'} {w = w'} {n = m} new) =
        let e = same_path new in
        let same-column : w' ≡ w = new.own_column ∙ fewer.same_wst p' new.is_path ∙ ap d.wst e ∙ sym old.own_column in
        (m, λ i. settled (e i) (same_figure new i) (same-column i) m)
    stands (unsettled new) = absurd (never_open new)

-- what the demand says of an answer that is settled
pub settled_demand : {c : Contest} {K : ℕ} {a : Answer} {p : Route} {f w n : ℕ} → Demand c K a → a ≡ settled p f w n → Settled c K p f w n
settled_demand (none h) e = let z : ◌≡◌ {A = ℕ} 0 1 = cc in absurd (omega arith)
settled_demand {c} {K} {p} {f} {w} {n} (closed {p = p'} {f = f'} {w = w'} {n = n'} d) e =
    let ep : p' ≡ p = cc in
    let ef : f' ≡ f = cc in
    let ew : w' ≡ w = cc in
    let en : n' ≡ n = cc in
    rw (← ep, ← ef, ← ew, ← en) d
settled_demand (unsettled d) e = let z : ◌≡◌ {A = ℕ} 0 1 = cc in absurd (omega arith)
