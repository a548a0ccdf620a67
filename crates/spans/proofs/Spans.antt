-- Laws of spans: the compare of an entry with a range, the pass over a span, and slots put into pairs. Assumes nothing.
use mathlib.Core.Path.{◌≡◌, ap, sym, ◌∙◌}
use mathlib.Core.Bool.{Bool, true, false}
use mathlib.Core.List.{List, [], ◌∷◌, ◌++◌}
use Prim.Native.Nat.{ℕ, suc, ◌+◌, ◌-◌, ◌*◌, ◌%◌, ◌≤◌, ◌<◌, min}
use native.Mathlib.Omega.{arith}
use native.Mathlib.Nat.{add-zero}
use native.Mathlib.Numerals.{add-one}
use native.Mathlib.Decide.{ℕ_discrete, dec_le}
use lib.Dec.{eqb, ltb}
use lib.ListN.{length, get_or, take, set, length-append, length-take}
use lib.Seq.{set-get_or, take-nil}
use borrow.Author.Tests.{le-leb, lt-leb, le-ltb}
use Rattle.counting.specs.Tests.{◌and◌, ◌or◌, pick, bit}
use Rattle.counting.specs.Count.{count, some, least, select_from}
use Rattle.counting.specs.Lists.{column}
use Rattle.counting.proofs.Tests.{by-test}
use Rattle.counting.proofs.Some.{some-zero, some_more, some-off}
use Rattle.counting.proofs.Least.{least-below, least_on, least_lt, least_kept, least-new, least-none, least_le}
use Rattle.counting.proofs.Lists.{length_none, take-append, take_min}
use Rattle.counting.proofs.SelectFrom.{from_on, from-off, from-split, from_skip, from-few, from_mono, from_front, length_from}
use Rattle.counting.proofs.Columns.{column-none, column-more, column-over, column-append, column-long}
use Rattle.racks.proofs.Table.{read-dest}
use Rattle.spans.specs.declared.parts.Range.{Range}
use Rattle.spans.specs.declared.parts.Hits.{Hits}
use Rattle.spans.specs.parts.Spans.{behind, lies, RangeFits, entry_in, hits_in, SlotsPut}

-- the way behind, where 0 does not come between
pub behind-on : (first x : ℕ) → first ≤ x → x - first ≡ behind first x
unfolding behind
behind-on first x l = rw (le-leb first x l)

-- and where it does
pub behind-off : (first x : ℕ) → x < first → x + (65535 - first) + 1 ≡ behind first x
unfolding behind
behind-off first x l = rw (lt-leb first x l)

-- one subtraction of 16 bits is that way, whichever of the two is more
pub behind-is : (first x : ℕ) → first < 65536 → x < 65536 → (x + (65536 - first)) % 65536 ≡ behind first x
behind-is first x f l = elim (dec_le first x) [
  | yes m ↦ rw (← behind-on first x m) (omega arith)
  | no m ↦ rw (← behind-off first x (omega arith)) (omega arith)
]

-- one compare says whether an entry lies in a range
pub lies_by : (range : Range) (x : ℕ) → RangeFits range → ltb (behind range.first x) range.width ≡ lies range x
unfolding lies ◌and◌
lies_by range x f = elim (dec_le range.first x) [
  | yes l ↦ rw (← behind-on range.first x l, le-leb range.first x l)
  | no l ↦ rw (← behind-off range.first x (omega arith), lt-leb range.first x (omega arith)) (le-ltb _ range.width (omega (arith, f)))
]

-- as code reads the entry
pub lies-read : (places : List ℕ) (range : Range) (g : ℕ) → g < length places → lies range (get_or places g 0) ≡ entry_in places range g
unfolding entry_in
lies-read places range g l = rw (read-dest places g l)

-- the pass over a span: the lowest of the first j places of n that passes, and n where none does
unfoldable pub lowest_of : ℕ → (ℕ → Bool) → ℕ → ℕ
lowest_of n f j = pick (some j f) (least j f) n

module _ (n : ℕ) (f : ℕ → Bool) where
  -- before the first
  pub lowest-zero : n ≡ lowest_of n f 0
  unfolding lowest_of
  lowest-zero = rw (some-zero f)

  -- one place more
  pub lowest-more : (j : ℕ) → j < n → min (lowest_of n f j) (pick (f j) j n) ≡ lowest_of n f (j + 1)
  unfolding lowest_of ◌or◌
  lowest-more j l = by-test (some j f)
      (λ e. rw (some_more j f, e, least_kept j f e) (by-test (f j) (λ t. rw t (omega (arith, least_lt j f e))) (λ t. rw t (omega (arith, least_lt j f e)))))
      (λ e. by-test (f j) (λ t. rw (some_more j f, e, t, least-new j f e t) (omega arith)) (λ t. rw (some_more j f, e, t) (omega arith)))

  -- of all places
  lowest-all : lowest_of n f n ≡ least n f
  unfolding lowest_of
  lowest-all = by-test (some n f) (λ e. rw e) (λ e. rw e (sym (least-none n f (some-off n f e))))

-- what the pass has found at its end
pub hits-all : (places : List ℕ) (range : Range) (low n c m : ℕ) → c ≡ count n (λ j. entry_in places range (low + j)) → m ≡ lowest_of n (λ j. entry_in places range (low + j)) n
    → ◌≡◌ {A = Hits} (record { count = c; lowest = m }) (hits_in places range low n)
hits-all places range low n c m ec em = rw (ec, em, lowest-all n (λ j. entry_in places range (low + j)))

-- one number of the first column
column-one : (lent : List ℕ) (k x : ℕ) → column 0 lent k (x ∷ []) ≡ set lent (2 * k) x
column-one lent k x =
    let z : 2 * k + 0 ≡ 2 * k = omega arith in
    column-more 0 lent k x [] ∙ column-none 0 (set lent (2 * k + 0) x) (suc k) ∙ rw z

-- numbers of a column to come: what stands in the place of the first does not matter
over : (side : ℕ) (l : List ℕ) (k v : ℕ) (xs : List ℕ) → 0 < length xs → column side (set l (2 * k + side) v) k xs ≡ column side l k xs
over side l k v [] h = absurd (omega arith)
over side l k v (x ∷ xs) h = column-over side l k v x xs

-- slots put one at a time: those of a table from g on that pass, into pairs from next up to stop, make the list all
pub record Putting (f : ℕ → Bool) (size side : ℕ) (all : List ℕ) (stop : ℕ) (lent : List ℕ) (g next : ℕ) : Type 0 where
  pub up : next ≤ stop
  pub within : g ≤ size
  pub enough : stop - next ≤ length (select_from g (size - g) f)
  pub same : column side lent next (take (stop - next) (select_from g (size - g) f)) ≡ all

module _ (f : ℕ → Bool) (size side : ℕ) (all : List ℕ) (stop : ℕ) (lent : List ℕ) (g next : ℕ) (w : Putting f size side all stop lent g next) where
  -- while a pair is left, so is a slot
  pub putting_in : next < stop → g < size
  putting_in l = omega (arith, w.enough, from-few g (size - g) f)

  module _ (l : next < stop) where
    rest : List ℕ
    rest = select_from (suc g) (size - suc g) f

    size_is : size - g ≡ suc (size - suc g)
    size_is = omega (arith, putting_in l)

    left_is : stop - next ≡ suc (stop - suc next)
    left_is = omega arith

    -- slot g passes: it stays where it was put
    putting-on : f g ≡ true → Putting f size side all stop (set lent (2 * next + side) g) (suc g) (suc next)
    unfolding rest
    putting-on e =
        let x : select_from g (size - g) f ≡ g ∷ rest = rw size_is (from_on g (size - suc g) f e) in
        record {
          up = l;
          within = putting_in l;
          enough = omega (arith, left_is, ap length x, w.enough);
          same = sym (column-more side lent next g (take (stop - suc next) rest)) ∙ rw (left_is, x) at w.same;
        }

    -- it does not: the next one is put over it
    putting-off : f g ≡ false → Putting f size side all stop (set lent (2 * next + side) g) (suc g) next
    unfolding rest
    putting-off e =
        let x : select_from g (size - g) f ≡ rest = rw size_is (from-off g (size - suc g) f e) in
        let h : stop - next ≤ length rest = omega (arith, ap length x, w.enough) in
        record {
          up = w.up;
          within = putting_in l;
          enough = h;
          same = over side lent next g (take (stop - next) rest) (omega (arith, length-take (stop - next) rest)) ∙ rw x at w.same;
        }

    -- as the code goes on
    pub putting-more : Putting f size side all stop (set lent (2 * next + side) g) (g + 1) (next + bit (f g))
    putting-more = by-test (f g)
        (λ e. rw (e, add-one g, add-one next) (putting-on e))
        (λ e. rw (e, add-one g, add-zero) (putting-off e))

  -- no pair is left
  pub putting-done : stop ≤ next → lent ≡ all
  putting-done l =
      let z : stop - next ≡ 0 = omega arith in
      sym (column-none side lent next) ∙ rw z at w.same

-- slots put after slots
pub put_on : (before between after : List ℕ) (k stop next last : ℕ) (a b : List ℕ) → k ≤ stop
    → SlotsPut before k (take (stop - k) a) next between → SlotsPut between next (take (stop - next) b) last after → SlotsPut before k (take (stop - k) (a ++ b)) last after
put_on before between after k stop next last a b l p q =
    let n : next ≡ k + min (stop - k) (length a) = omega (arith, p.next-is, length-take (stop - k) a) in
    let s : stop - next ≡ stop - k - length a = omega arith in
    let t : take (stop - k) (a ++ b) ≡ take (stop - k) a ++ take (stop - next) b = rw s (take-append (stop - k) a b) in
    record {
      list =
          q.list
          ∙ ap (λ (x : List ℕ). column 0 x next (take (stop - next) b)) p.list
          ∙ ap (λ (m : ℕ). column 0 (column 0 before k (take (stop - k) a)) m (take (stop - next) b)) p.next-is
          ∙ sym (column-append 0 before k (take (stop - k) a) (take (stop - next) b))
          ∙ ap (column 0 before k) (sym t);
      next-is = omega (arith, p.next-is, q.next-is, ap length t, length-append (take (stop - k) a) (take (stop - next) b));
    }

-- the list keeps its length
pub put-long : {before : List ℕ} {k : ℕ} {slots : List ℕ} {next : ℕ} {after : List ℕ} → SlotsPut before k slots next after → length after ≡ length before
put-long {before} {k} {slots} p = ap length p.list ∙ column-long 0 before k slots

-- no pair behind stop
pub put_up : {before after : List ℕ} (k stop next : ℕ) (a : List ℕ) → k ≤ stop → SlotsPut before k (take (stop - k) a) next after → next ≤ stop
put_up k stop next a l p = omega (arith, p.next-is, length-take (stop - k) a)

-- a piece of n slots from low on: how many of its entries lie in the range, and the lowest of them
module _ (places : List ℕ) (range : Range) (low n : ℕ) (here : Hits) (e : here ≡ hits_in places range low n) where
  test : ℕ → Bool
  test j = entry_in places range (low + j)

  slots_hit : List ℕ
  slots_hit = select_from low n (entry_in places range)

  pub count-here : here.count ≡ length (select_from low n (entry_in places range))
  count-here = ap (λ (x : Hits). x.count) e ∙ sym (length_from low n (entry_in places range))

  lowest-here : here.lowest ≡ least n test
  unfolding test
  lowest-here = ap (λ (x : Hits). x.lowest) e

  -- the lowest lies in the piece, or ends it
  pub lowest-within : here.lowest ≤ n
  lowest-within = omega (arith, lowest-here, least_le n test)

  -- from there on the piece has the same
  pub hits-from : select_from low n (entry_in places range) ≡ select_from (low + here.lowest) (n - here.lowest) (entry_in places range)
  unfolding test
  hits-from = from_skip low n here.lowest (entry_in places range) lowest-within (λ j l. least-below n test j (omega (arith, lowest-here)))

  -- none
  hits-none : here.count ≡ 0 → slots_hit ≡ []
  unfolding slots_hit
  hits-none z = length_none slots_hit (omega (arith, count-here))

  -- one: the lowest
  hits-one : here.count ≡ 1 → slots_hit ≡ (low + here.lowest) ∷ []
  unfolding slots_hit test
  hits-one z =
      let slot : ℕ = low + here.lowest in
      let m : ℕ = n - here.lowest - 1 in
      let x : n - here.lowest ≡ suc m = omega (arith, count-here, ap length hits-from, from-few slot (n - here.lowest) (entry_in places range)) in
      let on : entry_in places range slot ≡ true = rw (← lowest-here) at (least_on n test (omega (arith, lowest-here))) in
      let q : slots_hit ≡ slot ∷ select_from (suc slot) m (entry_in places range) = hits-from ∙ ap (λ (i : ℕ). select_from slot i (entry_in places range)) x ∙ from_on slot m (entry_in places range) on in
      q ∙ ap (λ (t : List ℕ). slot ∷ t) (length_none (select_from (suc slot) m (entry_in places range)) (omega (arith, ap length q, count-here)))

  -- the table has as many from there on
  pub piece-enough : low + n ≤ length places → (m : ℕ) → m ≤ here.count → m ≤ length (select_from (low + here.lowest) (length places - (low + here.lowest)) (entry_in places range))
  piece-enough w m h =
      omega (arith, count-here, ap length hits-from, from_mono (low + here.lowest) (n - here.lowest) (length places - (low + here.lowest)) (entry_in places range) (omega (arith, lowest-within)))

  module _ (lent : List ℕ) (k stop : ℕ) (l : k < stop) where
    -- one or none: one store, of the slot or of what stood there
    pub piece-few : here.count < 2 → (v : ℕ) → v ≡ pick (eqb here.count 1) (low + here.lowest) (get_or lent (2 * k) 0)
        → SlotsPut lent k (take (stop - k) (select_from low n (entry_in places range))) (k + here.count) (set lent (2 * k) v)
    unfolding slots_hit
    piece-few h v ev = elim (ℕ_discrete here.count 0) [
      | yes z ↦
          let t : take (stop - k) slots_hit ≡ [] = ap (take (stop - k)) (hits-none z) ∙ take-nil (stop - k) in
          record {
            list = ap (set lent (2 * k)) (rw z at ev) ∙ set-get_or lent (2 * k) 0 ∙ sym (column-none 0 lent k) ∙ ap (column 0 lent k) (sym t);
            next-is = omega (arith, ap length t);
          }
      | no d ↦
          let o : here.count ≡ 1 = omega arith in
          let m : stop - k ≡ suc (stop - suc k) = omega arith in
          let t : take (stop - k) slots_hit ≡ (low + here.lowest) ∷ [] = rw (hits-one o, m, take-nil {A = ℕ} (stop - suc k)) in
          record {
            list = ap (set lent (2 * k)) (rw o at ev) ∙ sym (column-one lent k (low + here.lowest)) ∙ ap (column 0 lent k) (sym t);
            next-is = omega (arith, ap length t);
          }
    ]

    -- more: those from the lowest on, as far as there are pairs
    pub piece-many : (end : ℕ) → end ≡ min (k + here.count) stop → low + n ≤ length places → (after : List ℕ)
        → after ≡ column 0 lent k (take (end - k) (select_from (low + here.lowest) (length places - (low + here.lowest)) (entry_in places range)))
        → SlotsPut lent k (take (stop - k) (select_from low n (entry_in places range))) end after
    unfolding slots_hit
    piece-many end ee w after ea =
        let slot : ℕ = low + here.lowest in
        let m : end - k ≡ min (stop - k) (length slots_hit) = omega (arith, count-here) in
        let t : take (end - k) (select_from slot (length places - slot) (entry_in places range)) ≡ take (stop - k) slots_hit =
        from_front slot (n - here.lowest) (length places - slot) (end - k) (entry_in places range) (omega (arith, lowest-within)) (omega (arith, ap length hits-from, count-here))
        ∙ ap (take (end - k)) (sym hits-from)
        ∙ ap (λ (i : ℕ). take i slots_hit) m
        ∙ take_min (stop - k) slots_hit in
        record {
          list = ea ∙ ap (column 0 lent k) t;
          next-is = omega (arith, length-take (stop - k) slots_hit, count-here);
        }

-- a span put piece by piece: its slots from low up to g are put
pub record Spanned (f : ℕ → Bool) (low high k stop : ℕ) (before lent : List ℕ) (g next : ℕ) : Type 0 where
  pub started : k ≤ stop
  pub from : low ≤ g
  pub within : g ≤ high
  pub put : SlotsPut before k (take (stop - k) (select_from low (g - low) f)) next lent

-- none yet
pub spanned-none : (f : ℕ → Bool) (low high k stop : ℕ) (lent : List ℕ) → low ≤ high → k ≤ stop → Spanned f low high k stop lent lent low k
spanned-none f low high k stop lent l m =
    let z : low - low ≡ 0 = omega arith in
    let t : take (stop - k) (select_from low (low - low) f) ≡ [] =
    ap (take (stop - k)) (length_none (select_from low (low - low) f) (omega (arith, from-few low (low - low) f))) ∙ take-nil (stop - k) in
    record {
      started = m;
      from = omega arith;
      within = l;
      put = record { list = sym (column-none 0 lent k) ∙ ap (column 0 lent k) (sym t); next-is = omega (arith, ap length t) };
    }

module _ (f : ℕ → Bool) (low high k stop : ℕ) (before lent : List ℕ) (g next : ℕ) (w : Spanned f low high k stop before lent g next) where
  put_count : next ≡ k + min (stop - k) (length (select_from low (g - low) f))
  put_count = omega (arith, w.put.next-is, length-take (stop - k) (select_from low (g - low) f))

  -- no pair behind stop
  pub spanned-up : next ≤ stop
  spanned-up = put_up k stop next (select_from low (g - low) f) w.started w.put

  -- the list keeps its length
  pub spanned-long : length lent ≡ length before
  spanned-long = put-long w.put

  -- the piece from g on
  module _ (n : ℕ) (fits : g + n ≤ high) (after : List ℕ) (last : ℕ) (p : SlotsPut lent next (take (stop - next) (select_from g n f)) last after) where
    pub spanned-more : Spanned f low high k stop before after (g + n) last
    spanned-more =
        let e : g + n - low ≡ (g - low) + n = omega (arith, w.from) in
        let q : low + (g - low) ≡ g = omega (arith, w.from) in
        record {
          started = w.started;
          from = omega (arith, w.from);
          within = fits;
          put = rw (e, from-split low (g - low) n f, q) (put_on before lent after k stop next last (select_from low (g - low) f) (select_from g n f) w.started w.put p);
        }

  -- all of it
  pub spanned-all : high ≤ g → SlotsPut before k (take (stop - k) (select_from low (high - low) f)) next lent
  spanned-all l = let e : g ≡ high = omega (arith, w.within) in rw e at w.put

  -- or no pair is left
  pub spanned-full : next ≡ stop → SlotsPut before k (take (stop - k) (select_from low (high - low) f)) next lent
  spanned-full e =
      let t : take (stop - k) (select_from low (high - low) f) ≡ take (stop - k) (select_from low (g - low) f) =
      from_front low (g - low) (high - low) (stop - k) f (omega (arith, w.within)) (omega (arith, put_count, w.started)) in
      rw t w.put
