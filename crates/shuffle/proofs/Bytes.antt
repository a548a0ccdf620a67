-- Running the copy list on the bytes of slots and of the hand: every card's bytes come where it goes. Assumes nothing.
use mathlib.Core.Path.{◌≡◌, refl, sym, ap, ◌∙◌, fun_ext}
use mathlib.Core.Logic.{◌≢◌, ◌⊎◌, inl, inr}
use mathlib.Core.List.{List, [], ◌∷◌}
use Prim.Native.Nat.{ℕ, ◌*◌, ◌≤◌, ◌<◌}
use native.Mathlib.Omega.{arith}
use native.Mathlib.Decide.{ℕ_discrete}
use lib.Dec.{eqb}
use lib.ListN.{length}
use borrow.Author.Tests.{eq-eqb, ne_eqb}
use Rattle.counting.specs.Tests.{pick}
use Rattle.counting.specs.Lists.{Pair}
use Rattle.counting.specs.Every.{All}
use Rattle.counting.specs.Every.All.{more}
use Rattle.racks.specs.Limits.{FREE, HAND}
use Rattle.racks.specs.Table.{dest}
use Rattle.moves.specs.Blocks.{block, put_block, blank}
use Rattle.moves.proofs.Blocks.{length-put, length-blank, length-block, block_same, block-other}
use Rattle.factors.specs.Copies.{copy_list}
use Rattle.shuffle.specs.Shuffle.{Hands, taken, laid, run_copies, brought, copy_made}
use Rattle.factors.specs.parts.Chains.{Chained}
use Rattle.factors.proofs.Runs.{put, run}
use Rattle.factors.proofs.Home.{ProperCopy, list_proper, brings-home}

-- cards of n slots and a card in the hand, b bytes each
pub record Sized (b n : ℕ) (h : Hands) : Type 0 where
  pub cards-long : length h.cards ≡ n * b
  pub hand-long : length h.hand ≡ b

module _ (b : ℕ) where
  -- the hand's card
  pub taken-hand : (h : Hands) → taken b HAND h ≡ h.hand
  unfolding taken
  taken-hand h = refl

  -- a slot's card
  pub taken-slot : (x : ℕ) (h : Hands) → x ≢ HAND → taken b x h ≡ block b x h.cards
  unfolding taken
  taken-slot x h q = rw (ne_eqb x HAND q)

  -- a card put into the hand
  pub laid-hand : (card : List ℕ) (h : Hands) → laid b HAND card h ≡ record { cards = h.cards; hand = card }
  unfolding laid
  laid-hand card h = refl

  -- a card put into a slot
  pub laid-slot : (y : ℕ) (card : List ℕ) (h : Hands) → y ≢ HAND → laid b y card h ≡ record { cards = put_block b y card h.cards; hand = h.hand }
  unfolding laid
  laid-slot y card h q = rw (ne_eqb y HAND q)

module _ (b n : ℕ) (few : n ≤ 4096) where
  apart : (v : ℕ) → v < n → v ≢ HAND
  apart v l = omega arith

  length_taken : (x : ℕ) (h : Hands) → Sized b n h → (x < n) ⊎ (x ≡ HAND) → length (taken b x h) ≡ b
  length_taken x h s (inl l) = ap length (taken-slot b x h (apart x l)) ∙ length-block b n x h.cards s.cards-long l
  length_taken x h s (inr e) = rw (e, taken-hand b h) s.hand-long

  laid-sized : (y : ℕ) (card : List ℕ) (h : Hands) → Sized b n h → length card ≡ b → (y < n) ⊎ (y ≡ HAND) → Sized b n (laid b y card h)
  laid-sized y card h s e (inl l) = rw (laid-slot b y card h (apart y l)) (record { cards-long = length-put b y card h.cards ∙ s.cards-long; hand-long = s.hand-long })
  laid-sized y card h s e (inr i) = rw (i, laid-hand b card h) (record { cards-long = s.cards-long; hand-long = e })

  -- what stands where after a card is put somewhere
  taken-laid : (y z : ℕ) (card : List ℕ) (h : Hands) → Sized b n h → length card ≡ b → (y < n) ⊎ (y ≡ HAND) → taken b z (laid b y card h) ≡ pick (eqb z y) card (taken b z h)
  unfolding taken
  taken-laid y z card h s e (inr i) = rw (i, laid-hand b card h) (elim (ℕ_discrete z HAND) [ yes q ↦ rw (eq-eqb z HAND q) | no q ↦ rw (ne_eqb z HAND q) ])
  taken-laid y z card h s e (inl l) = rw (laid-slot b y card h (apart y l)) (elim (ℕ_discrete z HAND) [
    | yes q ↦ rw (eq-eqb z HAND q, ne_eqb z y (λ i. apart y l (sym i ∙ q)))
    | no q ↦ elim (ℕ_discrete z y) [
      | yes i ↦ rw (ne_eqb z HAND q, eq-eqb z y i, i) (block_same b n y card h.cards s.cards-long l e)
      | no i ↦ rw (ne_eqb z HAND q, ne_eqb z y i) (block-other b z y card h.cards e i)
    ]
  ])

  -- one copy of bytes is one copy of contents
  copied : (c : Pair) (h : Hands) → Sized b n h → ProperCopy n c → (z : ℕ) → taken b z (laid b c.1 (taken b c.0 h) h) ≡ put (λ x. taken b x h) c.0 c.1 z
  unfolding put
  copied c h s p z = taken-laid c.1 z (taken b c.0 h) h s (length_taken c.0 h s p.source) p.target

  sized_on : (c : Pair) (h : Hands) → Sized b n h → ProperCopy n c → Sized b n (laid b c.1 (taken b c.0 h) h)
  sized_on c h s p = laid-sized c.1 (taken b c.0 h) h s (length_taken c.0 h s p.source) p.target

  -- and so is a list of copies
  pub viewed : (cs : List Pair) (h : Hands) → Sized b n h → All (ProperCopy n) cs → (z : ℕ) → taken b z (run_copies b cs h) ≡ run cs (λ x. taken b x h) z
  unfolding copy_made run_copies run
  viewed [] h s p z = refl
  viewed (c ∷ cs) h s (more p ps) z =
      viewed cs (laid b c.1 (taken b c.0 h) h) (sized_on c h s p) ps z
      ∙ ap (λ (v : ℕ → List ℕ). run cs v z) (fun_ext (λ x. copied c h s p x))

  -- copies keep the buffer and the hand as long as they are
  pub run-sized : (cs : List Pair) (h : Hands) → Sized b n h → All (ProperCopy n) cs → Sized b n (run_copies b cs h)
  unfolding copy_made run_copies
  run-sized [] h s p = s
  run-sized (c ∷ cs) h s (more p ps) = run-sized cs (laid b c.1 (taken b c.0 h) h) (sized_on c h s p) ps

module _ {places : List ℕ} (ok : Chained places) (b : ℕ) where
  -- after the copy list every card is where it goes, whatever the cards' bytes and the hand's
  pub list-brings : (h : Hands) → Sized b (length places) h → (g d : ℕ) → g < length places → dest places g ≡ d → d ≢ FREE
      → block b d (run_copies b (copy_list places) h).cards ≡ block b g h.cards
  list-brings h s g d l e q =
      let f : dest places g ≢ FREE = rw e q in
      let there : d < length places = rw e at (ok.below g f) in
      let m = ok.small in
      sym (taken-slot b d (run_copies b (copy_list places) h) (omega arith))
      ∙ viewed b (length places) ok.small (copy_list places) h s (list_proper ok) d
      ∙ rw e at (brings-home ok (λ x. taken b x h) g f)
      ∙ taken-slot b g h (omega arith)

  start-sized : (cards : List ℕ) → length cards ≡ length places * b → Sized b (length places) (record { cards = cards; hand = blank b })
  start-sized cards e = record { cards-long = e; hand-long = length-blank b }

  -- and so with the hand blank at first
  pub brought-home : (cards : List ℕ) → length cards ≡ length places * b → (g d : ℕ) → g < length places → dest places g ≡ d → d ≢ FREE → block b d (brought b places cards) ≡ block b g cards
  unfolding brought
  brought-home cards e = list-brings (record { cards = cards; hand = blank b }) (start-sized cards e)

  -- the list keeps the length of the buffer
  pub length-brought : (cards : List ℕ) → length cards ≡ length places * b → length (brought b places cards) ≡ length places * b
  unfolding brought
  length-brought cards e = (run-sized b (length places) ok.small (copy_list places) (record { cards = cards; hand = blank b }) (start-sized cards e) (list_proper ok)).cards-long
