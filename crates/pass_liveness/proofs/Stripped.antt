-- What is live in a function is live in it without its debug items: marks and phis read and set nothing, and control
-- comes past them. `live_stripped` says so at the start of each block.
use Rattle.std.proofs.Common.{◌≡◌, ◌↔◌, ℕ, ◌+◌, Bool, true, false, cond, List, [], ◌∷◌, nat_eq, Option}
use Rattle.std.proofs.Common.{refl, sym, ap, ◌∙◌, inl, inr, arith, subst}
use Rattle.std.specs.List.{cons_option}
use Rattle.rv64_instr.specs.declared.place.Place.{Place}
use Rattle.mir_func.specs.declared.block.Block.{Block}
use Rattle.mir_func.specs.declared.debug_substitution.OperandPair.{OperandPair}
use Rattle.mir_func.specs.declared.exit.Exit.{Exit}
use Rattle.mir_func.specs.declared.exit.Exit.TheVariants.{Onward, Perhaps, Always, Final}
use Rattle.mir_func.specs.declared.item.Item.{Item}
use Rattle.mir_func.specs.declared.item.ItemKind.{ItemKind}
use Rattle.mir_func.specs.declared.item.ItemKind.TheVariants.{Code, Mark, Phi}
use Rattle.mir_func.specs.declared.location.Loc.{Loc}
use Rattle.mir_func.specs.declared.position.Origin.{Origin}
use Rattle.mir_func.specs.Exits.{exit_of}
use Rattle.mir_func.specs.Graph.{program_of, block_start, from_block, fetch_in}
use Rattle.mir_func.specs.Strip.{bare, stripped_items, stripped_block, stripped_blocks}
use Rattle.sem_mir.specs.Live.{Live}
use Rattle.pass_liveness.proofs.Paths.{LiveFrom, LiveAcross, LiveBefore, WalkedIn, next_of, walk_is_live, live_is_walked}

-- ---- items

before_map : (x : Place) (k : ItemKind) (A B : Type 0) → (A → B) → LiveBefore x k A → LiveBefore x k B
before_map x k A B f (inl u) = inl u
before_map x k A B f (inr (nd, a)) = inr (nd, f a)

across_map : (S : ℕ → Type 0) (e : Exit) (A B : Type 0) → (A → B) → LiveAcross S e A → LiveAcross S e B
across_map S Onward A B f h = f h
across_map S (Perhaps n) A B f (inl h) = inl (f h)
across_map S (Perhaps n) A B f (inr s) = inr s
across_map S (Always n) A B f s = s
across_map S Final A B f h = h

module _ (S : ℕ → Type 0) (x : Place) (next : Option ℕ) where
  kept : (k : ItemKind) (o : Origin) (l : Loc) (is : List Item) → (LiveFrom x S (stripped_items is) next → LiveFrom x S is next) →
      LiveFrom x S (cons_option (bare k o l) (stripped_items is)) next → LiveBefore x k (LiveAcross S (exit_of k) (LiveFrom x S is next))
  kept (Code i n) o l is rest h = before_map x (Code i n) (LiveAcross S (exit_of (Code i n)) (LiveFrom x S (stripped_items is) next))
      (LiveAcross S (exit_of (Code i n)) (LiveFrom x S is next))
      (across_map S (exit_of (Code i n)) (LiveFrom x S (stripped_items is) next) (LiveFrom x S is next) rest) h
  kept (Mark v m) o l is rest h = inr (λ d. d, rest h)
  kept (Phi p n) o l is rest h = inr (λ d. d, rest h)

  pub from_stripped_items : (items : List Item) → LiveFrom x S (stripped_items items) next → LiveFrom x S items next
  from_stripped_items [] h = h
  from_stripped_items (i ∷ is) h = kept i.kind i.origin i.loc is (from_stripped_items is) h

  lost : (k : ItemKind) (o : Origin) (l : Loc) (is : List Item) → (LiveFrom x S is next → LiveFrom x S (stripped_items is) next) →
      LiveBefore x k (LiveAcross S (exit_of k) (LiveFrom x S is next)) → LiveFrom x S (cons_option (bare k o l) (stripped_items is)) next
  lost (Code i n) o l is rest h = before_map x (Code i n) (LiveAcross S (exit_of (Code i n)) (LiveFrom x S is next))
      (LiveAcross S (exit_of (Code i n)) (LiveFrom x S (stripped_items is) next))
      (across_map S (exit_of (Code i n)) (LiveFrom x S is next) (LiveFrom x S (stripped_items is) next) rest) h
  lost (Mark v m) o l is rest h = elim h [ inl u ↦ absurd u | inr (nd, a) ↦ rest a ]
  lost (Phi p n) o l is rest h = elim h [ inl u ↦ absurd u | inr (nd, a) ↦ rest a ]

  pub to_stripped_items : (items : List Item) → LiveFrom x S items next → LiveFrom x S (stripped_items items) next
  to_stripped_items [] h = h
  to_stripped_items (i ∷ is) h = lost i.kind i.origin i.loc is (to_stripped_items is) h

-- ---- blocks

next_stripped : (bs : List Block) → next_of (stripped_blocks bs) ≡ next_of bs
next_stripped [] = refl
next_stripped (b ∷ bs) = refl

from_head : (b : Block) (bs : List Block) (n : ℕ) (t : Bool) → from_block (stripped_blocks bs) n ≡ stripped_blocks (from_block bs n) →
    cond t (stripped_blocks (b ∷ bs)) (from_block (stripped_blocks bs) n) ≡ stripped_blocks (cond t (b ∷ bs) (from_block bs n))
from_head b bs n true h = refl
from_head b bs n false h = h

from_stripped : (bs : List Block) (n : ℕ) → from_block (stripped_blocks bs) n ≡ stripped_blocks (from_block bs n)
from_stripped [] n = refl
from_stripped (b ∷ bs) n = from_head b bs n (nat_eq b.id n) (from_stripped bs n)

module _ (sp tp : Bool) (blocks : List Block) (resolve other : OperandPair → Option OperandPair) (x : Place) where
  abbrev Before : ℕ → Type 0
  Before n = Live (program_of sp blocks resolve) x (block_start n)

  abbrev Bare : ℕ → Type 0
  Bare n = Live (program_of tp (stripped_blocks blocks) other) x (block_start n)

  zero_on : (j : ℕ) → 0 + j ≡ j
  zero_on j = omega arith

  closed_bare : (n : ℕ) → WalkedIn sp blocks resolve x Bare (from_block blocks n) 0 → Bare n
  closed_bare n w = by_blocks (from_block blocks n) refl w where
    by_blocks : (fbs : List Block) → from_block blocks n ≡ fbs → WalkedIn sp blocks resolve x Bare fbs 0 → Bare n
    by_blocks [] e w = absurd w
    by_blocks (c ∷ cs) e w =
        let begins : from_block (stripped_blocks blocks) n ≡ stripped_block c ∷ stripped_blocks cs = from_stripped blocks n ∙ ap stripped_blocks e in
        let walk = subst (λ (o : Option ℕ). LiveFrom x Bare (stripped_items c.items) o) (sym (next_stripped cs))
        (to_stripped_items Bare x (next_of cs) c.items w) in
        walk_is_live tp (stripped_blocks blocks) other x Bare (λ m s. s) n 0 (stripped_items c.items) c.source_end (stripped_blocks cs)
        (λ j. ap (fetch_in (from_block (stripped_blocks blocks) n)) (zero_on j) ∙ ap (λ (bs : List Block). fetch_in bs j) begins) walk

  closed_before : (n : ℕ) → WalkedIn tp (stripped_blocks blocks) other x Before (from_block (stripped_blocks blocks) n) 0 → Before n
  closed_before n w = by_blocks (from_block blocks n) refl
      (subst (λ (bs : List Block). WalkedIn tp (stripped_blocks blocks) other x Before bs 0) (from_stripped blocks n) w) where
        by_blocks : (fbs : List Block) → from_block blocks n ≡ fbs → WalkedIn tp (stripped_blocks blocks) other x Before (stripped_blocks fbs) 0 → Before n
        by_blocks [] e w = absurd w
        by_blocks (c ∷ cs) e w =
            let walk = from_stripped_items Before x (next_of cs) c.items
            (subst (λ (o : Option ℕ). LiveFrom x Before (stripped_items c.items) o) (next_stripped cs) w) in
            walk_is_live sp blocks resolve x Before (λ m s. s) n 0 c.items c.source_end cs
            (λ j. ap (fetch_in (from_block blocks n)) (zero_on j) ∙ ap (λ (bs : List Block). fetch_in bs j) e) walk

  -- at the start of a block
  pub live_stripped : (n : ℕ) → Live (program_of sp blocks resolve) x (block_start n) ↔ Live (program_of tp (stripped_blocks blocks) other) x (block_start n)
  live_stripped n = (
    λ l. closed_bare n (live_is_walked sp blocks resolve x Bare closed_bare l),
    λ l. closed_before n (live_is_walked tp (stripped_blocks blocks) other x Before closed_before l),
  )
