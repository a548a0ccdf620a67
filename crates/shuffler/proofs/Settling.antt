-- The slots settled: the new table, the free slots listed, and zeroed. Assumes nothing.
use mathlib.Core.Path.{◌≡◌, refl, sym, ap, ◌∙◌}
use mathlib.Core.Logic.{◌≢◌}
use mathlib.Core.Bool.{true, false}
use mathlib.Core.List.{List}
use Prim.Native.Nat.{ℕ, ◌+◌, ◌*◌, ◌≤◌, ◌<◌}
use native.Mathlib.Omega.{arith}
use native.Mathlib.Decide.{ℕ_discrete}
use lib.ListN.{length, get_or, length-set}
use lib.Seq.{get_or-set_same, get_or-set_other}
use borrow.Author.Tests.{eq-eqb, ne_eqb}
use Rattle.counting.specs.Lists.{tabulate, join}
use Rattle.counting.proofs.Tests.{off}
use Rattle.counting.proofs.Some.{some-hit, some-found}
use Rattle.counting.proofs.Lists.{tabulate-is}
use Rattle.racks.specs.Limits.{FREE}
use Rattle.racks.specs.Table.{names}
use Rattle.moves.specs.Blocks.{block, put_block, blank}
use Rattle.moves.proofs.Blocks.{length-put, length-blank, block_same, block-other, blocks_ext}
use Rattle.factors.specs.Copies.{source}
use Rattle.factors.specs.parts.Chains.{Chained}
use Rattle.factors.specs.parts.Walks.{Sources}
use Rattle.factors.proofs.Chains.{seek_hit, seek_found}
use Rattle.shuffle.specs.Shuffle.{is_named, last_entry, last_card}
use Rattle.shuffler.specs.parts.Settled.{entry_by, SlotSettled, FreeListed, TableSettled, AllBelow, Zeroed}
use Rattle.shuffle.specs.parts.Shuffled.{AllSettled}
use Rattle.shuffle.proofs.Settled.{last-named, last-free, card-named, card-free, length_last, length-slots, block-slots}

-- no card is bound for a slot exactly where no entry names it
module _ {places : List ℕ} (ok : Chained places) (d : ℕ) where
  -- no card comes: no entry names it
  pub unnamed : source places d ≡ FREE → is_named places d ≡ false
  unfolding is_named source
  unnamed e = off (λ t.
      let f = some-found (length places) (names places d) t in
      seek_found FREE (names places d) (length places) f.0 (omega (arith, ok.small)) f.1 f.2 e)

  -- a card comes: an entry names it
  pub named-is : source places d ≢ FREE → is_named places d ≡ true
  unfolding is_named source
  named-is q = let h = seek_hit FREE (names places d) (length places) q in some-hit (length places) (names places d) (source places d) h.1 h.0

-- the entry of a settled slot
pub entry_free : (s d : ℕ) → s ≡ FREE → FREE ≡ entry_by s d
unfolding entry_by
entry_free s d e = rw (eq-eqb s FREE e)

-- it names itself
pub entry_named : (s d : ℕ) → s ≢ FREE → d ≡ entry_by s d
unfolding entry_by
entry_named s d q = rw (ne_eqb s FREE q)

-- the first d slots are settled, and those of them that are free listed from the front of the list that has the sources of the others
pub record SettledTo (places : List ℕ) (d : ℕ) (places' frees : List ℕ) (n : ℕ) : Type 0 where
  pub entries : (g : ℕ) → g < d → get_or places' g 0 ≡ last_entry places g
  pub listed : FreeListed places d frees n
  pub rest : (g : ℕ) → d ≤ g → g < length places → get_or frees g 0 ≡ source places g
  pub size : length places' ≡ length places

-- none is
pub settled-none : (places noted : List ℕ) → Sources places noted → SettledTo places 0 places noted 0
settled-none places noted s = record {
  entries = λ g l. absurd (omega arith);
  listed = record { hits = λ i l. absurd (omega arith); all = λ g l. absurd (omega arith); few = omega arith; long = s.long };
  rest = λ g l. s.sources g;
  size = refl;
}

module _ {places : List ℕ} (ok : Chained places) (d : ℕ) (low : d < length places) (n : ℕ) (places₁ frees₁ : List ℕ) (t : SettledTo places d places₁ frees₁ n) (s : ℕ) (read : s ≡ get_or frees₁ d 0) (count : ℕ) (places₂ frees₂ : List ℕ) (w : SlotSettled s d n places₁ frees₁ count places₂ frees₂) where
  -- the source is read before its place is written
  from : s ≡ source places d
  from = read ∙ t.rest d (omega arith) low

  room : n < length frees₁
  room = omega (arith, t.listed.few, t.listed.long, ok.small)

  last-is : entry_by s d ≡ last_entry places d
  last-is = elim (ℕ_discrete s FREE) [
    | yes e ↦ sym (entry_free s d e) ∙ sym (last-free places d (unnamed ok d (sym from ∙ e)))
    | no q ↦ sym (entry_named s d q) ∙ sym (last-named places d (named-is ok d (λ e. q (from ∙ e))))
  ]

  before : (i : ℕ) → i < n → get_or frees₂ i 0 ≡ get_or frees₁ i 0
  before i l = ap (λ (f : List ℕ). get_or f i 0) w.slot ∙ get_or-set_other frees₁ n i d 0 (λ e. omega arith)

  here : get_or frees₂ n 0 ≡ d
  here = ap (λ (f : List ℕ). get_or f n 0) w.slot ∙ get_or-set_same frees₁ n d 0 room

  beyond : (g : ℕ) → d + 1 ≤ g → g < length places → get_or frees₂ g 0 ≡ source places g
  beyond g l h = ap (λ (f : List ℕ). get_or f g 0) w.slot ∙ get_or-set_other frees₁ n g d 0 (λ e. omega (arith, t.listed.few)) ∙ t.rest g (omega arith) h

  long₂ : 4097 ≤ length frees₂
  long₂ = omega (arith, ap length w.slot ∙ length-set frees₁ n d, t.listed.long)

  listed_free : s ≡ FREE → FreeListed places (d + 1) frees₂ count
  listed_free e =
      let c : count ≡ n + 1 = w.count-is ∙ rw (eq-eqb s FREE e) in
      record {
        hits = λ i l. elim (ℕ_discrete i n) [
          | yes j ↦ rw (j, here) (omega arith, sym from ∙ e)
          | no j ↦ let m : i < n = omega arith in let h = t.listed.hits i m in rw (before i m) (omega (arith, h.0), h.1)
        ];
        all = λ g l f. elim (ℕ_discrete g d) [
          | yes j ↦ (n, omega arith, here ∙ sym j)
          | no j ↦ let h = t.listed.all g (omega arith) f in (h.0, omega (arith, h.1), before h.0 h.1 ∙ h.2)
        ];
        few = omega (arith, t.listed.few);
        long = long₂;
      }

  listed-named : s ≢ FREE → FreeListed places (d + 1) frees₂ count
  listed-named q =
      let c : count ≡ n + 0 = w.count-is ∙ rw (ne_eqb s FREE q) in
      record {
        hits = λ i l. let m : i < n = omega arith in let h = t.listed.hits i m in rw (before i m) (omega (arith, h.0), h.1);
        all = λ g l f. elim (ℕ_discrete g d) [
          | yes j ↦ absurd (q (from ∙ ap (source places) (sym j) ∙ f))
          | no j ↦ let h = t.listed.all g (omega arith) f in (h.0, omega (arith, h.1), before h.0 h.1 ∙ h.2)
        ];
        few = omega (arith, t.listed.few);
        long = long₂;
      }

  -- one slot more
  pub settled-more : SettledTo places (d + 1) places₂ frees₂ count
  settled-more = record {
    entries = λ g l. elim (ℕ_discrete g d) [
      | yes j ↦ rw (w.entry, j) (get_or-set_same places₁ d (entry_by s d) 0 (omega (arith, t.size)) ∙ last-is)
      | no j ↦ rw w.entry (get_or-set_other places₁ d g (entry_by s d) 0 j ∙ t.entries g (omega arith))
    ];
    listed = elim (ℕ_discrete s FREE) [ yes e ↦ listed_free e | no q ↦ listed-named q ];
    rest = beyond;
    size = ap length w.entry ∙ length-set places₁ d (entry_by s d) ∙ t.size;
  }

-- all slots
pub settled-all : (places : List ℕ) (d : ℕ) (places' frees : List ℕ) (n : ℕ) → d ≡ length places → SettledTo places d places' frees n → TableSettled places places' frees n
settled-all places d places' frees n e t = record {
  entries = tabulate-is (length places) (last_entry places) places' 0 t.size (λ k l. t.entries k (omega arith));
  listed = rw e at t.listed;
  size = t.size;
}

-- no slot is zeroed yet
pub zeroed-none : (b : ℕ) (frees cards : List ℕ) → Zeroed b frees 0 cards cards
zeroed-none b frees cards = record { done = λ i l. absurd (omega arith); rest = λ g l. refl; size = refl }

-- one slot more
pub zeroed-more : (b S : ℕ) (frees : List ℕ) (n : ℕ) (cards cards₁ cards₂ : List ℕ) → Zeroed b frees n cards cards₁ → (f : ℕ) → f ≡ get_or frees n 0 → f < S → length cards ≡ S * b → cards₂ ≡ put_block b f (blank b) cards₁ → Zeroed b frees (n + 1) cards cards₂
zeroed-more b S frees n cards cards₁ cards₂ z f e l sized p = record {
  done = λ i m. elim (ℕ_discrete (get_or frees i 0) f) [
    | yes j ↦ rw (p, j) (block_same b S f (blank b) cards₁ (z.size ∙ sized) l (length-blank b))
    | no j ↦ rw p (block-other b (get_or frees i 0) f (blank b) cards₁ (length-blank b) j ∙ z.done i (other i m j))
  ];
  rest = λ g h. rw p (block-other b g f (blank b) cards₁ (length-blank b) (λ j. h n (omega arith) (sym e ∙ sym j)) ∙ z.rest g (λ i m. h i (omega arith)));
  size = ap length p ∙ length-put b f (blank b) cards₁ ∙ z.size;
}
  where
    other : (i : ℕ) → i < n + 1 → get_or frees i 0 ≢ f → i < n
    other i m j = elim (ℕ_discrete i n) [ yes k ↦ absurd (j (ap (λ (x : ℕ). get_or frees x 0) k ∙ sym e)) | no k ↦ omega arith ]

-- the free slots are slots of the new table too
pub listed-low : {places : List ℕ} (places' frees : List ℕ) (n : ℕ) → TableSettled places places' frees n → AllBelow (length places') n frees
listed-low places' frees n t i l = rw t.size (t.listed.hits i l).0

-- the table and the cards at the end
pub all_settled : (b : ℕ) {places : List ℕ} (cards : List ℕ) → Chained places → length cards ≡ length places * b → (n : ℕ) (places' frees cards' : List ℕ) → TableSettled places places' frees n → Zeroed b frees n cards cards'
    → AllSettled b places cards places' cards'
all_settled b {places} cards ok sized n places' frees cards' t z = record {
  entries = t.entries;
  bytes = blocks_ext b (length places) cards' (join (tabulate (length places) (last_card b places cards))) (z.size ∙ sized)
      (length-slots b (last_card b places cards) (length places) (length_last b places cards sized))
      (λ g l. each-slot g l ∙ sym (block-slots b (last_card b places cards) (length places) g (length_last b places cards sized) l));
}
  where
    each-slot : (g : ℕ) → g < length places → block b g cards' ≡ last_card b places cards g
    each-slot g l = elim (ℕ_discrete (source places g) FREE) [
      | yes e ↦ let h = t.listed.all g l e in rw h.2 at (z.done h.0 h.1) ∙ sym (card-free places g b cards (unnamed ok g e))
      | no q ↦ z.rest g (λ i m j. q (rw j at (t.listed.hits i m).1)) ∙ sym (card-named places g b cards (named-is ok g q))
    ]
