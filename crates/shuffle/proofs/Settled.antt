-- The table and the cards after the shuffle, slot by slot: a named slot has its card, every other is blank. Assumes nothing.
use mathlib.Core.Path.{◌≡◌, sym, ap, ◌∙◌}
use mathlib.Core.Logic.{◌≢◌}
use mathlib.Core.Bool.{true, false}
use mathlib.Core.List.{List}
use Prim.Native.Nat.{ℕ, zero, suc, ◌*◌, ◌≤◌, ◌<◌}
use native.Mathlib.Omega.{arith}
use native.Mathlib.Nat.{suc-mul, zero-mul, mul-le-mul_right}
use native.Mathlib.Decide.{ℕ_discrete}
use lib.ListN.{length, drop, length-append, length-drop}
use lib.Seq.{drop-append-le, take-append-le, drop_at, take_all}
use borrow.Author.Tests.{eq-eqb, ne_eqb}
use Rattle.counting.specs.Lists.{tabulate, join}
use Rattle.counting.proofs.Tests.{by-test}
use Rattle.counting.proofs.Some.{some-hit, some-none}
use Rattle.counting.proofs.Lists.{join_more, get_d_tabulate}
use Rattle.racks.specs.Limits.{FREE}
use Rattle.racks.specs.Racks.{Rack, slots}
use Rattle.racks.specs.Table.{dest, names}
use Rattle.racks.specs.parts.Legal.{Legal}
use Rattle.moves.specs.Blocks.{block, blank}
use Rattle.moves.specs.Moves.{Held}
use Rattle.moves.proofs.Blocks.{length-block, length-blank}
use Rattle.answers.specs.declared.Tally.{Tally}
use Rattle.shuffle.specs.parts.Shuffled.{Shuffled}
use Rattle.shuffle.specs.Shuffle.{brought, is_named, last_entry, last_card, settled_held}
use Rattle.factors.specs.parts.Chains.{Chained}
use Rattle.factors.proofs.Chains.{chained}
use Rattle.shuffle.proofs.Bytes.{brought-home, length-brought}

-- slots of b bytes each, one after another
module _ (b : ℕ) (f : ℕ → List ℕ) where
  -- n slots have n times b bytes
  pub length-slots : (n : ℕ) → ((k : ℕ) → k < n → length (f k) ≡ b) → length (join (tabulate n f)) ≡ n * b
  length-slots zero h = unfold tabulate join in sym (zero-mul b)
  length-slots (suc n) h = rw (join_more n f, length-append, length-slots n (λ k l. h k (omega arith)), h n (omega arith)) (sym (suc-mul n b))

  -- the bytes of one of them
  pub block-slots : (n d : ℕ) → ((k : ℕ) → k < n → length (f k) ≡ b) → d < n → block b d (join (tabulate n f)) ≡ f d
  unfolding block
  block-slots zero d h l = absurd (omega arith)
  block-slots (suc n) d h l =
      let long = length-slots n (λ k l. h k (omega arith)) in
      rw (join_more n f)
      (elim (ℕ_discrete d n) [
        | yes e ↦ rw (e, drop_at (join (tabulate n f)) (f n) (n * b) long) (take_all b (f n) (omega (arith, h n (omega arith))))
        | no e ↦
            let k : d < n = omega arith in
            let m = rw suc-mul at (mul-le-mul_right b k) in
            let p : d * b ≤ length (join (tabulate n f)) = omega arith in
            let q : b ≤ length (drop (d * b) (join (tabulate n f))) = simp length-drop (omega arith) in
            rw (drop-append-le (d * b) (join (tabulate n f)) (f n) p, take-append-le b (drop (d * b) (join (tabulate n f))) (f n) q) (block-slots n d (λ i j. h i (omega arith)) k)
      ])

-- a slot that an entry names, and one that none does
module _ (places : List ℕ) (d : ℕ) where
  -- where an entry names it
  pub is-named : (g : ℕ) → g < length places → dest places g ≡ d → is_named places d ≡ true
  unfolding is_named names
  is-named g l e = some-hit (length places) (names places d) g l (eq-eqb (dest places g) d e)

  -- where none does
  pub not_named : ((g : ℕ) → g < length places → dest places g ≢ d) → is_named places d ≡ false
  unfolding is_named names
  not_named h = some-none (length places) (names places d) (λ g l. ne_eqb (dest places g) d (h g l))

  -- a slot that is named names itself at the end
  pub last-named : is_named places d ≡ true → last_entry places d ≡ d
  unfolding last_entry
  last-named e = rw e

  -- one that is not is free
  pub last-free : is_named places d ≡ false → last_entry places d ≡ FREE
  unfolding last_entry
  last-free e = rw e

  module _ (b : ℕ) (cards : List ℕ) where
    -- a slot that is named keeps its bytes
    pub card-named : is_named places d ≡ true → last_card b places cards d ≡ block b d cards
    unfolding last_card
    card-named e = rw e

    -- one that is not is blank
    pub card-free : is_named places d ≡ false → last_card b places cards d ≡ blank b
    unfolding last_card
    card-free e = rw e

-- at the end every slot has b bytes
pub length_last : (b : ℕ) (places cards : List ℕ) → length cards ≡ length places * b → (d : ℕ) → d < length places → length (last_card b places cards d) ≡ b
length_last b places cards e d l = by-test (is_named places d)
    (λ t. ap length (card-named places d b cards t) ∙ length-block b (length places) d cards e l)
    (λ t. ap length (card-free places d b cards t) ∙ length-blank b)

-- a legal table of at most 4,096 slots, with its cards
module _ (racks : List Rack) (b : ℕ) (h : Held) (v : Legal racks h.places) (few : slots racks ≤ 4096) (sized : length h.cards ≡ slots racks * b) where
  ok : Chained h.places
  ok = chained v few

  after : List ℕ
  after = brought b h.places h.cards

  long : length h.cards ≡ length h.places * b
  long = rw v.long sized

  last_block : (d : ℕ) → d < slots racks → block b d (settled_held racks b h).cards ≡ last_card b h.places after d
  unfolding settled_held after
  last_block d l = block-slots b (last_card b h.places after) (slots racks) d
      (λ k m. length_last b h.places after (length-brought ok b h.cards long) k (omega (arith, v.long))) l

  -- a card is in the slot that its entry named, with the bytes that it had
  pub settled-card : (g d : ℕ) → g < slots racks → dest h.places g ≡ d → d ≢ FREE → block b d (settled_held racks b h).cards ≡ block b g h.cards
  unfolding after
  settled-card g d l e q =
      let f : dest h.places g ≢ FREE = rw e q in
      last_block d (omega (arith, rw e at (ok.below g f), v.long))
      ∙ card-named h.places d b after (is-named h.places d g (omega (arith, v.long)) e)
      ∙ brought-home ok b h.cards long g d (omega (arith, v.long)) e q

  -- every slot that no entry named is blank
  pub settled-blank : (d : ℕ) → d < slots racks → ((g : ℕ) → g < slots racks → dest h.places g ≢ d) → block b d (settled_held racks b h).cards ≡ blank b
  settled-blank d l n = last_block d l ∙ card-free h.places d b after (not_named h.places d (λ g m. n g (omega (arith, v.long))))

-- the entries after the shuffle
module _ (racks : List Rack) (b : ℕ) (h : Held) (d : ℕ) (l : d < slots racks) where
  last-dest : dest (settled_held racks b h).places d ≡ last_entry h.places d
  unfolding settled_held
  last-dest = get_d_tabulate (slots racks) (last_entry h.places) d FREE l

  -- a settled slot names itself
  pub settled-self : is_named h.places d ≡ true → dest (settled_held racks b h).places d ≡ d
  settled-self e = last-dest ∙ last-named h.places d e

  -- all else is 65,535
  pub settled-free : is_named h.places d ≡ false → dest (settled_held racks b h).places d ≡ FREE
  settled-free e = last-dest ∙ last-free h.places d e

-- the table and the cards that the inner shuffle leaves are those of the definition
pub settled-held : (racks : List Rack) (b : ℕ) (places cards : List ℕ) (tally after : Tally) (places' cards' : List ℕ) → length places ≡ slots racks → Shuffled b places cards tally after places' cards'
    → ◌≡◌ {A = Held} (record { places = places'; cards = cards' }) (settled_held racks b (record { places = places; cards = cards }))
unfolding settled_held
settled-held racks b places cards tally after places' cards' long w =
    let p : places' ≡ tabulate (slots racks) (last_entry places) = w.settled.entries ∙ ap (λ (n : ℕ). tabulate n (last_entry places)) long in
    let c : cards' ≡ join (tabulate (slots racks) (last_card b places (brought b places cards))) = w.settled.bytes ∙ ap (λ (n : ℕ). join (tabulate n (last_card b places (brought b places cards)))) long in
    rw (p, c)
