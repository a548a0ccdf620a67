-- How far a pass over the slots has come: the slots marked, the copies made, the factors to come. Assumes nothing.
use mathlib.Core.Path.{◌≡◌, refl, sym, ap, ◌∙◌}
use mathlib.Core.Logic.{◌≢◌}
use mathlib.Core.List.{List, [], ◌++◌, append_assoc, append-nil}
use Prim.Native.Nat.{ℕ, suc, ◌+◌, ◌-◌, ◌≤◌, ◌<◌}
use native.Mathlib.Omega.{arith}
use native.Mathlib.Numerals.{add-one}
use lib.ListN.{length, get_or, length-append}
use borrow.Author.Tests.{eq-eqb, ne_eqb}
use Rattle.counting.specs.Tests.{◌or◌}
use Rattle.counting.specs.Lists.{Pair, join, each, among}
use Rattle.counting.proofs.Tests.{by-test}
use Rattle.counting.proofs.Members.{among-append}
use Rattle.answers.specs.Answers.{plus_copies}
use Rattle.answers.specs.declared.Tally.{Tally}
use Rattle.factors.specs.Copies.{factor, factors_from, factors, copies, copy_list}
use Rattle.factors.specs.parts.Chains.{Chained}
use Rattle.factors.specs.parts.Walks.{LISTED, walked, walk_count, Marked, Unmarked, Walked}
use Rattle.copies.specs.parts.Writes.{put_copies, due, Counted, Added, CopiesWritten, AllWritten}
use Rattle.factors.proofs.Costs.{list_most}
use Rattle.factors.proofs.Walking.{mark-none}
use Rattle.factors.proofs.Walked.{length-walked}
use Rattle.copies.proofs.Tallied.{plus_none, plus-count, plus-both}
use Rattle.copies.proofs.Writing.{put-none, put-append}

-- what is due at slot k: nothing where it is marked
pub due-none : (places seen : List ℕ) (mark k : ℕ) → get_or seen k 0 ≡ mark → due places mark seen k ≡ []
unfolding due
due-none places seen mark k e = rw (eq-eqb (get_or seen k 0) mark e)

-- where it is not, its factor
pub due-factor : (places seen : List ℕ) (mark k : ℕ) → get_or seen k 0 ≢ mark → due places mark seen k ≡ factor places k
unfolding due
due-factor places seen mark k q = rw (ne_eqb (get_or seen k 0) mark q)

no_copies : (places : List ℕ) → copies places [] ≡ []
unfolding copies
no_copies places = refl

-- so no copies are where it is marked
pub marked-none : (places seen : List ℕ) (mark k : ℕ) → get_or seen k 0 ≡ mark → copies places (due places mark seen k) ≡ []
marked-none places seen mark k e = ap (copies places) (due-none places seen mark k e) ∙ no_copies places

-- at slot k: some slots are marked, and of the copy list these copies are made, those of later factors left
pub record Progress (places : List ℕ) (mark k : ℕ) (start seen : List ℕ) (made : List Pair) : Type 0 where
  pub done : List ℕ
  pub marks : Marked mark done start seen
  pub split : copy_list places ≡ made ++ join (each (copies places) (factors_from places (length places - k) k done))

-- at first none is
pub progress_start : (places start : List ℕ) (mark : ℕ) → Progress places mark 0 start start []
unfolding copy_list factors
progress_start places start mark =
    let e : length places - 0 ≡ length places = omega arith in
    record { done = []; marks = mark-none mark start; split = rw e }

module _ (places : List ℕ) (mark k : ℕ) (start seen : List ℕ) (made : List Pair) (p : Progress places mark k start seen made) where
  -- behind the last slot all copies are made
  pub progress-end : k ≡ length places → copy_list places ≡ made
  unfolding join each factors_from
  progress-end e = let z : length places - k ≡ 0 = omega arith in rw z at p.split ∙ append-nil made

  -- the copies due at slot k come next in the list
  module _ (fresh : Unmarked places mark start) (low : k < length places) where
    abbrev now-due : List ℕ
    now-due = due places mark seen k

    split-on : copy_list places ≡ (made ++ copies places now-due) ++ join (each (copies places) (factors_from places (length places - (k + 1)) (k + 1) (now-due ++ p.done)))
    unfolding join each factors_from
    split-on =
        let i : length places - k ≡ suc (length places - (k + 1)) = omega arith in
        p.split ∙ by-test (among k p.done)
        (λ e.
        let d : due places mark seen k ≡ [] = due-none places seen mark k (p.marks.marks k ∙ rw e) in
        rw (d, i, e, add-one k, no_copies places, append-nil))
        (λ e.
        let d : due places mark seen k ≡ factor places k = due-factor places seen mark k (λ q. fresh.none k low (sym (p.marks.marks k ∙ rw e) ∙ q)) in
        rw (d, i, e, add-one k) (sym (append_assoc made (copies places (factor places k)) _)))

    -- they are not more than the list has
    pub progress-room : length made + length (copies places now-due) ≤ length (copy_list places)
    progress-room =
        omega (
          arith,
          ap length split-on,
          length-append made (copies places now-due),
          length-append (made ++ copies places now-due) (join (each (copies places) (factors_from places (length places - (k + 1)) (k + 1) (now-due ++ p.done)))),
        )

    -- one slot more
    pub progress-more : (seen₂ : List ℕ) → Marked mark now-due seen seen₂ → Progress places mark (k + 1) start seen₂ (made ++ copies places now-due)
    unfolding ◌or◌
    progress-more seen₂ m = record { done = now-due ++ p.done; marks = both m; split = split-on }
      where
        both : Marked mark now-due seen seen₂ → Marked mark (now-due ++ p.done) start seen₂
        both m = record {
          marks = λ v. m.marks v ∙ rw (p.marks.marks v, among-append v now-due p.done) (by-test (among v now-due) (λ e. rw e) (λ e. rw e));
          long = m.long ∙ p.marks.long;
        }

-- at most 6,144 copies
pub few-copies : {places : List ℕ} → Chained places → length (copy_list places) ≤ 6144
few-copies ok = omega (arith, list_most ok, ok.small)

-- the copies of the slots before k are counted
pub record Counting (places : List ℕ) (mark k at : ℕ) (start seen : List ℕ) : Type 0 where
  pub made : List Pair
  pub progress : Progress places mark k start seen made
  pub count : at ≡ length made

-- none is
pub counting-start : (places start : List ℕ) (mark : ℕ) → Counting places mark 0 0 start start
counting-start places start mark = record { made = []; progress = progress_start places start mark; count = refl }

module _ (places : List ℕ) (mark k at : ℕ) (start seen : List ℕ) (p : Counting places mark k at start seen) where
  -- behind the last slot all are
  pub counting-end : k ≡ length places → at ≡ length (copy_list places)
  counting-end e = p.count ∙ ap length (sym (progress-end places mark k start seen p.made p.progress e))

  module _ (fresh : Unmarked places mark start) (low : k < length places) where
    -- there is room for those of slot k
    pub counting-room : at + length (copies places (due places mark seen k)) ≤ length (copy_list places)
    counting-room = omega (arith, p.count, progress-room places mark k start seen p.made p.progress fresh low)

    -- those of slot k too
    pub counting_more : (at₂ : ℕ) (seen₂ : List ℕ) → Counted places mark k at seen at₂ seen₂ → Counting places mark (k + 1) at₂ start seen₂
    counting_more at₂ seen₂ c = record {
      made = p.made ++ copies places (due places mark seen k);
      progress = progress-more places mark k start seen p.made p.progress fresh low seen₂ c.marked;
      count = omega (arith, c.count-is, p.count, length-append p.made (copies places (due places mark seen k)));
    }

-- slot k is marked: no mark is made
due-none-marked : (places seen : List ℕ) (mark k : ℕ) → get_or seen k 0 ≡ mark → Marked mark (due places mark seen k) seen seen
due-none-marked places seen mark k e = rw (due-none places seen mark k e) (mark-none mark seen)

-- and nothing is counted
pub counted_none : (places seen : List ℕ) (mark k at : ℕ) → get_or seen k 0 ≡ mark → Counted places mark k at seen at seen
counted_none places seen mark k at e = record {
  count-is = let z : length (copies places (due places mark seen k)) ≡ 0 = ap length (marked-none places seen mark k e) in omega arith;
  marked = due-none-marked places seen mark k e;
}

-- it is not: its factor is walked and its copies are counted
module _ (places seen : List ℕ) (mark k : ℕ) (q : get_or seen k 0 ≢ mark) (h n end : ℕ) (marks : List ℕ) (w : Walked places mark k seen h n end marks) where
  -- they are those that are due
  pub due-copies : copies places (due places mark seen k) ≡ walked places h n end
  due-copies = ap (copies places) (due-factor places seen mark k q) ∙ w.copies-are

  -- so many
  pub due-count : length (copies places (due places mark seen k)) ≡ walk_count n end
  due-count = ap length due-copies ∙ length-walked places h n end

  pub due-marked : Marked mark (due places mark seen k) seen marks
  due-marked = rw (due-factor places seen mark k q) w.marked

  pub counted-due : (at count : ℕ) → count ≡ at + walk_count n end → Counted places mark k at seen count marks
  counted-due at count e = record { count-is = e ∙ ap (λ (m : ℕ). at + m) (sym due-count); marked = due-marked }

  -- and added to the tally
  pub added-due : (tally after : Tally) → after ≡ plus_copies (walk_count n end) tally → Added places mark k seen tally after marks
  added-due tally after e = record { count-is = e ∙ ap (λ (m : ℕ). plus_copies m tally) (sym due-count); marked = due-marked }

-- slot k is marked: nothing is added
pub added_none : (places seen : List ℕ) (mark k : ℕ) (tally : Tally) → get_or seen k 0 ≡ mark → Added places mark k seen tally tally seen
added_none places seen mark k tally e = record {
  count-is = plus_none tally (length (copies places (due places mark seen k))) (ap length (marked-none places seen mark k e));
  marked = due-none-marked places seen mark k e;
}

-- the copies of the slots before k, these, are added to the tally
pub record Adding (places : List ℕ) (mark k : ℕ) (start seen : List ℕ) (made : List Pair) (tally sum : Tally) : Type 0 where
  pub progress : Progress places mark k start seen made
  pub count-is : sum ≡ plus_copies (length made) tally

-- none is
pub adding-start : (places start : List ℕ) (mark : ℕ) (tally : Tally) → Adding places mark 0 start start [] tally tally
adding-start places start mark tally = record { progress = progress_start places start mark; count-is = plus_none tally 0 refl }

module _ (places : List ℕ) (mark k : ℕ) (start seen : List ℕ) (made : List Pair) (tally sum : Tally) (p : Adding places mark k start seen made tally sum) where
  -- behind the last slot all are
  pub adding-end : k ≡ length places → sum ≡ plus_copies (length (copy_list places)) tally
  adding-end e = p.count-is ∙ ap (λ (cs : List Pair). plus_copies (length cs) tally) (sym (progress-end places mark k start seen made p.progress e))

  module _ (fresh : Unmarked places mark start) (low : k < length places) where
    -- there is room for those of slot k
    pub adding-room : tally.copies ≡ 0 → sum.copies + length (copies places (due places mark seen k)) ≤ length (copy_list places)
    adding-room z = omega (arith, plus-count tally sum (length made) p.count-is, progress-room places mark k start seen made p.progress fresh low)

    -- those of slot k too
    pub adding-more : (sum₂ : Tally) (seen₂ : List ℕ) → Added places mark k seen sum sum₂ seen₂ → Adding places mark (k + 1) start seen₂ (made ++ copies places (due places mark seen k)) tally sum₂
    adding-more sum₂ seen₂ a = record {
      progress = progress-more places mark k start seen made p.progress fresh low seen₂ a.marked;
      count-is = plus-both tally sum sum₂ (length made) (length (copies places (due places mark seen k))) (length (made ++ copies places (due places mark seen k))) p.count-is a.count-is
          (length-append made (copies places (due places mark seen k)));
    }

-- the same, and they are written from the list's front
pub record Listing (places : List ℕ) (mark k : ℕ) (start seen list₀ list : List ℕ) (tally sum : Tally) : Type 0 where
  pub made : List Pair
  pub adding : Adding places mark k start seen made tally sum
  pub wrote : list ≡ put_copies list₀ 0 made

-- none is
pub listing_start : (places start list : List ℕ) (mark : ℕ) (tally : Tally) → Listing places mark 0 start start list list tally tally
listing_start places start list mark tally = record { made = []; adding = adding-start places start mark tally; wrote = sym (put-none list 0) }

-- behind the last slot all are
pub listing-end : (places : List ℕ) (k : ℕ) (start seen list₀ list : List ℕ) (tally sum : Tally) → Listing places LISTED k start seen list₀ list tally sum → k ≡ length places → AllWritten places list₀ start tally sum list seen
listing-end places k start seen list₀ list tally sum p e = record {
  count-is = adding-end places LISTED k start seen p.made tally sum p.adding e;
  list-is = p.wrote ∙ ap (put_copies list₀ 0) (sym (progress-end places LISTED k start seen p.made p.adding.progress e));
  marked = record { slots = p.adding.progress.done; marked = p.adding.progress.marks };
}

module _ (places : List ℕ) (mark k : ℕ) (start seen list₀ list : List ℕ) (tally sum : Tally) (p : Listing places mark k start seen list₀ list tally sum) where
  -- those of slot k too
  pub listing-more : Unmarked places mark start → tally.copies ≡ 0 → k < length places → (sum₂ : Tally) (list₂ seen₂ : List ℕ) → CopiesWritten places mark k list seen sum sum₂ list₂ seen₂ → Listing places mark (k + 1) start seen₂ list₀ list₂ tally sum₂
  listing-more fresh z low sum₂ list₂ seen₂ w = record {
    made = p.made ++ copies places (due places mark seen k);
    adding = adding-more places mark k start seen p.made tally sum p.adding fresh low sum₂ seen₂ w.added;
    wrote =
        let e : sum.copies ≡ 0 + length p.made = omega (arith, plus-count tally sum (length p.made) p.adding.count-is) in
        w.list-is ∙ rw (p.wrote, e) (sym (put-append list₀ 0 p.made (copies places (due places mark seen k))));
  }

-- slot k is marked: nothing is written
pub written_none : (places seen list : List ℕ) (mark k : ℕ) (tally : Tally) → get_or seen k 0 ≡ mark → CopiesWritten places mark k list seen tally tally list seen
written_none places seen list mark k tally e = record {
  added = added_none places seen mark k tally e;
  list-is = sym (put-none list tally.copies) ∙ ap (put_copies list tally.copies) (sym (marked-none places seen mark k e));
}
