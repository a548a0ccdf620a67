-- The pairs of a target, by the slots where it begins and ends, are those of the plan; they are counted and put as the code does it.
-- Assumes nothing.
use mathlib.Core.Path.{◌≡◌, ap, sym, ◌∙◌}
use mathlib.Core.Bool.{Bool, false}
use mathlib.Core.Logic.{◌≢◌}
use mathlib.Core.List.{List, ◌++◌, append-nil}
use Prim.Native.Nat.{ℕ, suc, ◌+◌, ◌-◌, ◌*◌, ◌≤◌, ◌<◌, min}
use native.Mathlib.Omega.{arith}
use native.Mathlib.Nat.{zero-add, sub-zero}
use native.Mathlib.Decide.{ℕ_discrete}
use lib.ListN.{length, take, length-append, length-take}
use lib.Seq.{sets, length-take-le}
use borrow.Author.Tests.{eqb-true, eq-eqb}
use Rattle.counting.specs.Count.{select, select_from}
use Rattle.counting.specs.Lists.{Pair, column, flat}
use Rattle.counting.proofs.Tests.{by-test, off, no_way, and_true}
use Rattle.counting.proofs.Lists.{take_min}
use Rattle.counting.proofs.Pairs.{length-pair_up, pair_up-both}
use Rattle.counting.proofs.SelectFrom.{from-split, from_cong, from-none, from_front, from_mono, select-all}
use Rattle.counting.proofs.Columns.{columns-flat}
use Rattle.racks.specs.Limits.{FREE}
use Rattle.racks.specs.Racks.{Rack, base, slots, rack_of}
use Rattle.racks.specs.Table.{dest, free, rack_to, away_to, free_on}
use Rattle.racks.specs.parts.Legal.{Legal}
use Rattle.racks.proofs.Geometry.{base_mono, end_le, rack-is, rack_in}
use Rattle.racks.proofs.LegalTable.{legal-dest}
use Rattle.racks.proofs.Away.{away-held, away-is, to-away, to-rack, to-own, to_is, on-rack}
use Rattle.plans.specs.Plan.{open_slots, plan_for}
use Rattle.plans.proofs.Grants.{plan_for-is}
use Rattle.spans.specs.declared.parts.Range.{Range}
use Rattle.spans.specs.declared.parts.Hits.{Hits}
use Rattle.spans.specs.parts.Spans.{range_of, free_range, entry_in, hits_in, SlotsPut}
use Rattle.planner.specs.parts.Targets.{coming_to, opens_of, pairs_to, PairsPut}
use Rattle.spans.proofs.Found.{lies-on, lies-off, free-lies}
use Rattle.spans.proofs.Spans.{count-here, put_on}

module _ (places : List ℕ) (first end : ℕ) where
  -- the cards below and those above
  below : List ℕ
  below = select_from 0 first (entry_in places (range_of first end))

  above : List ℕ
  above = select_from end (length places - end) (entry_in places (range_of first end))

  length_coming : length (coming_to places first end) ≡ length below + length above
  unfolding coming_to below above
  length_coming = length-append below above

  length_pairs : length (pairs_to places first end) ≡ min (length (coming_to places first end)) (length (opens_of places first end))
  unfolding pairs_to
  length_pairs = length-pair_up (coming_to places first end) (opens_of places first end)

  -- its free slots, as the code counts them
  pub opens-here : (mark : Range) → mark ≡ free_range → (here : Hits) → here ≡ hits_in places mark first (end - first) → here.count ≡ length (opens_of places first end)
  unfolding opens_of
  opens-here mark em here e = rw em at (count-here places mark first (end - first) here e)

  -- its pairs, as the code counts them
  module _ (range mark : Range) (er : range ≡ range_of first end) (em : mark ≡ free_range) (opens low high : Hits) (eo : opens ≡ hits_in places mark first (end - first))
      (el : low ≡ hits_in places range 0 first) (eh : high ≡ hits_in places range end (length places - end)) where
    pub pairs-counted : (n : ℕ) → n ≡ min (low.count + high.count) opens.count → n ≡ length (pairs_to places first end)
    unfolding below above
    pairs-counted n e =
        omega (
          arith,
          length_pairs,
          length_coming,
          opens-here mark em opens eo,
          count-here places (range_of first end) 0 first low (rw er at el),
          count-here places (range_of first end) end (length places - end) high (rw er at eh),
        )

  -- its pairs, as the code puts them: the slots of the cards in one column, its free slots in the other
  module _ (k most stop : ℕ) (es : stop ≡ min (k + length (opens_of places first end)) most)
      (fits : k + length (pairs_to places first end) ≤ most) where
    -- the pairs begin where they stop, or before
    pub target_up : k ≤ stop
    target_up = omega arith

    module _ (range : Range) (er : range ≡ range_of first end) (before mid between : List ℕ) (next last : ℕ)
        (p : SlotsPut before k (take (stop - k) (select_from 0 (first - 0) (entry_in places range))) next mid)
        (q : SlotsPut mid next (take (stop - next) (select_from end (length places - end) (entry_in places range))) last between) where
      coming-put : SlotsPut before k (take (stop - k) (coming_to places first end)) last between
      unfolding coming_to
      coming-put = put_on before mid between k stop next last _ _ target_up (rw (sub-zero first, er) at p) (rw er at q)

      -- as many as it has pairs
      last-is : last ≡ k + length (pairs_to places first end)
      last-is = omega (arith, coming-put.next-is, length-take (stop - k) (coming_to places first end), length_pairs)

      -- no more than cards come, or than it has free slots
      few_coming : last - k ≤ length (coming_to places first end)
      few_coming = omega (arith, last-is, length_pairs)

      few-opens : last - k ≤ length (opens_of places first end)
      few-opens = omega (arith, last-is, length_pairs)

      -- nor than the table has from its first slot on
      pub target-enough : first ≤ end → end ≤ length places → (mark : Range) → mark ≡ free_range
          → last - k ≤ length (select_from first (length places - first) (entry_in places mark))
      unfolding opens_of
      target-enough u w mark em =
          rw em (omega (arith, few-opens, from_mono first (end - first) (length places - first) (entry_in places free_range) (omega arith)))

      pub target-put : first ≤ end → end ≤ length places → (mark : Range) → mark ≡ free_range → (after : List ℕ)
          → after ≡ column 1 between k (take (last - k) (select_from first (length places - first) (entry_in places mark)))
          → PairsPut before k (pairs_to places first end) last after
      unfolding opens_of pairs_to
      target-put u w mark em after ea =
          let n : ℕ = last - k in
          let coming : List ℕ = coming_to places first end in
          let as_many : min (stop - k) (length coming) ≡ n = omega (arith, last-is, length_pairs) in
          let opens : List ℕ = opens_of places first end in
          let xs : take (stop - k) coming ≡ take n coming =
          sym (take_min (stop - k) coming) ∙ ap (λ (i : ℕ). take i coming) as_many in
          let ys : take n (select_from first (length places - first) (entry_in places mark)) ≡ take n opens =
          rw em (from_front first (end - first) (length places - first) n (entry_in places free_range) (omega arith) few-opens) in
          record {
            list =
                ea
                ∙ ap (λ (l : List ℕ). column 1 l k (take n (select_from first (length places - first) (entry_in places mark)))) coming-put.list
                ∙ rw (xs, ys) (columns-flat before k (take n coming) (take n opens) (length-take-le n coming few_coming ∙ sym (length-take-le n opens few-opens)))
                ∙ ap (λ (ms : List Pair). sets before (2 * k) (flat ms)) (pair_up-both n coming opens (omega (arith, last-is, length_pairs)));
            next-is = last-is;
          }

-- a card on another rack is away to p exactly if its entry lies in p's slots
module _ (racks : List Rack) (places : List ℕ) (v : Legal racks places) (small : slots racks ≤ 4096) (p : ℕ) (l : p < length racks) where
  abbrev low : ℕ
  low = base racks p

  abbrev high : ℕ
  high = base racks (suc p)

  rises : low ≤ high
  rises = base_mono racks p (suc p) (omega arith)

  ends : high ≤ slots racks
  ends = end_le racks p l

  -- a slot of another rack
  pub away_range : (g : ℕ) → g < slots racks → rack_of racks g ≢ p → away_to racks places p g ≡ entry_in places (range_of low high) g
  unfolding entry_in free
  away_range g m d = by-test (free places g)
      (λ f. off (λ a. no_way f (away-held racks places g (to-away racks places p g a)))
      ∙ sym (lies-off low high (dest places g) (λ _ h. omega (arith, ends, eqb-true (dest places g) FREE f))))
      (λ f. elim (ℕ_discrete (rack_to racks places g) p) [
        | yes e ↦
            let b = rack_in racks p (dest places g) (legal-dest racks places v g m f) (named e) in
            to_is racks places p g (away-is racks places g f (λ q. d (q ∙ e))) e ∙ sym (lies-on low high (dest places g) b.0 b.1)
        | no e ↦ off (λ a. e (to-rack racks places p g a)) ∙ sym (lies-off low high (dest places g) (λ h h'. e (names (rack-is racks p (dest places g) l h h'))))
      ])
    where
      named : rack_to racks places g ≡ p → rack_of racks (dest places g) ≡ p
      named e = unfold rack_to in e

      names : rack_of racks (dest places g) ≡ p → rack_to racks places g ≡ p
      names e = unfold rack_to in e

  -- the slots of p are those from low up to high
  on-p : (g : ℕ) → low ≤ g → g < high → rack_of racks g ≡ p
  on-p g m n = rack-is racks p g l m n

  off-p : (g : ℕ) → g < slots racks → (low ≤ g → g < high → ⊥) → rack_of racks g ≢ p
  off-p g m f e = let b = rack_in racks p g m e in f b.0 b.1

  -- all slots: those below p, those of p, those above it
  three : (f : ℕ → Bool) → select (slots racks) f ≡ select_from 0 low f ++ (select_from low (high - low) f ++ select_from high (slots racks - high) f)
  three f =
      let e : slots racks ≡ low + ((high - low) + (slots racks - high)) = omega (arith, rises, ends) in
      let h : low + (high - low) ≡ high = omega (arith, rises) in
      select-all (slots racks) f
      ∙ ap (λ (n : ℕ). select_from 0 n f) e
      ∙ from-split 0 low ((high - low) + (slots racks - high)) f
      ∙ rw (zero-add low, from-split low (high - low) (slots racks - high) f, h)

  -- the cards away to p, source by source
  coming-is : select (slots racks) (away_to racks places p) ≡ coming_to places low high
  unfolding coming_to
  coming-is =
      three (away_to racks places p)
      ∙ rw (
        v.long,
        from-none low (high - low) (away_to racks places p) (λ g m n. to-own racks places p g (on-p g m (omega (arith, rises)))),
        from_cong 0 low (away_to racks places p) (entry_in places (range_of low high)) (λ g m n. away_range g (omega (arith, rises, ends)) (off-p g (omega (arith, rises, ends)) (λ h _. omega arith))),
        from_cong high (slots racks - high) (away_to racks places p) (entry_in places (range_of low high)) (λ g m n. away_range g (omega (arith, ends)) (off-p g (omega (arith, ends)) (λ _ h. omega arith))),
      )

  free_on_lem : (g : ℕ) → rack_of racks g ≡ p → free_on racks places p g ≡ entry_in places free_range g
  unfolding free_on
  free_on_lem g e = and_true _ (eq-eqb (rack_of racks g) p e) ∙ free-lies places g

  free_off : (g : ℕ) → rack_of racks g ≢ p → free_on racks places p g ≡ false
  free_off g d = off (λ f. d (on-rack racks places p g f))

  -- the free slots of p
  opens-is : open_slots racks places p ≡ opens_of places low high
  unfolding open_slots opens_of
  opens-is =
      three (free_on racks places p)
      ∙ rw (
        from-none 0 low (free_on racks places p) (λ g m n. free_off g (off-p g (omega (arith, rises, ends)) (λ h _. omega arith))),
        from-none high (slots racks - high) (free_on racks places p) (λ g m n. free_off g (off-p g (omega (arith, ends)) (λ _ h. omega arith))),
        append-nil,
        from_cong low (high - low) (free_on racks places p) (entry_in places free_range) (λ g m n. free_on_lem g (on-p g m (omega (arith, rises)))),
      )

  -- the pairs of target p are those of the plan
  pub target_is : pairs_to places (base racks p) (base racks (suc p)) ≡ plan_for racks places p
  unfolding pairs_to
  target_is = sym (plan_for-is racks places p ∙ rw (coming-is, opens-is))
