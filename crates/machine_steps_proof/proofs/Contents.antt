-- Silent indices tell nothing of which places are wanted: two functions with the same numbers and items have the same paths, with the same
-- tokens.
use Rattle.std.proofs.Common.{◌≡◌, ℕ, zero, suc, List, [], ◌∷◌, drop, map, Option, cond, nat_eq, refl, sym, ap, ◌∙◌, subst}
use Rattle.rv64_instr.specs.declared.place.Place.{Place}
use Rattle.mir_func.specs.declared.block.Block.{Block}
use Rattle.mir_func.specs.declared.debug_substitution.OperandPair.{OperandPair}
use Rattle.mir_func.specs.declared.item.Item.{Item}
use Rattle.mir_func.specs.declared.position.Pos.{Pos}
use Rattle.mir_func.specs.declared.variable.VarId.{VarId}
use Rattle.mir_func.specs.Graph.{Fetch, Here, EndOfBlock, Outside, Program, block_start, end_of, front, fetch_in, index_of, framed_program, KindEdge, FetchEdge}
use Rattle.mir_func.specs.SoundFrame.{body_of}
use Rattle.mir_func.specs.Sound.{contents_of}
use Rattle.sem_mir.specs.ValueId.{Tokens, after_fetch, Path, begin, onward}
use Rattle.sem_mir.specs.PreferredLocation.{SitsIn}
use Rattle.machine_steps_proof.specs.Contents.{ContentsTellWanted}

-- the same stands there, silent indices aside
abbrev AreAlike : Fetch → Fetch → Type 0
AreAlike (Here i) (Here j) = i ≡ j
AreAlike (EndOfBlock k m) (EndOfBlock l n) = m ≡ n
AreAlike Outside Outside = Unit {0}
AreAlike (Here i) (EndOfBlock l n) = ⊥
AreAlike (Here i) Outside = ⊥
AreAlike (EndOfBlock k m) (Here j) = ⊥
AreAlike (EndOfBlock k m) Outside = ⊥
AreAlike Outside (Here j) = ⊥
AreAlike Outside (EndOfBlock l n) = ⊥

-- the first of two blocks, and the others
record HeadsAlike (b c : Block) (bs cs : List Block) : Type 0 where
  id : b.id ≡ c.id
  items : b.items ≡ c.items
  rest : map contents_of bs ≡ map contents_of cs

heads : (b c : Block) (bs cs : List Block) → map contents_of (b ∷ bs) ≡ map contents_of (c ∷ cs) → HeadsAlike b c bs cs
heads b c bs cs e =
    let one : contents_of b ≡ contents_of c = cc in
    let rest : map contents_of bs ≡ map contents_of cs = cc in
    record { id = ap (λ (x : ℕ × List Item). x.0) one; items = ap (λ (x : ℕ × List Item). x.1) one; rest = rest }

drop_alike : (n : ℕ) (bs cs : List Block) → map contents_of bs ≡ map contents_of cs → map contents_of (drop n bs) ≡ map contents_of (drop n cs)
drop_alike zero [] [] e = refl
drop_alike (suc n) [] [] e = refl
drop_alike n [] (c ∷ cs) e = cc
drop_alike n (b ∷ bs) [] e = cc
drop_alike zero (b ∷ bs) (c ∷ cs) e = e
drop_alike (suc n) (b ∷ bs) (c ∷ cs) e = drop_alike n bs cs (heads b c bs cs e).rest

ends_alike : (k l : ℕ) (bs cs : List Block) → map contents_of bs ≡ map contents_of cs → AreAlike (end_of k bs) (end_of l cs)
ends_alike k l [] [] e = tt
ends_alike k l [] (c ∷ cs) e = cc
ends_alike k l (b ∷ bs) [] e = cc
ends_alike k l (b ∷ bs) (c ∷ cs) e = (heads b c bs cs e).id

fronts_alike : (xs : List Item) (k l : ℕ) (bs cs : List Block) → map contents_of bs ≡ map contents_of cs → AreAlike (front xs k bs) (front xs l cs)
fronts_alike [] k l bs cs e = ends_alike k l bs cs e
fronts_alike (x ∷ xs) k l bs cs e = refl

fetch_alike : (bs cs : List Block) (n : ℕ) → map contents_of bs ≡ map contents_of cs → AreAlike (fetch_in bs n) (fetch_in cs n)
fetch_alike [] [] n e = tt
fetch_alike [] (c ∷ cs) n e = cc
fetch_alike (b ∷ bs) [] n e = cc
fetch_alike (b ∷ bs) (c ∷ cs) n e =
    let h = heads b c bs cs e in
    subst (λ (xs : List Item). AreAlike (front (drop n xs) b.source_end bs) (front (drop n c.items) c.source_end cs)) (sym h.items)
    (fronts_alike (drop n c.items) b.source_end c.source_end bs cs h.rest)

index_alike : (bs cs : List Block) (n : ℕ) → map contents_of bs ≡ map contents_of cs → index_of bs n ≡ index_of cs n
index_alike [] [] n e = refl
index_alike [] (c ∷ cs) n e = cc
index_alike (b ∷ bs) [] n e = cc
index_alike (b ∷ bs) (c ∷ cs) n e =
    let h = heads b c bs cs e in
    ap (λ (x : ℕ). cond (nat_eq x n) 0 (suc (index_of bs n))) h.id ∙ ap (λ (x : ℕ). cond (nat_eq c.id n) 0 (suc x)) (index_alike bs cs n h.rest)

body_alike : (bs cs : List Block) → map contents_of bs ≡ map contents_of cs → map contents_of (body_of bs) ≡ map contents_of (body_of cs)
body_alike [] [] e = refl
body_alike [] (c ∷ cs) e = cc
body_alike (b ∷ bs) [] e = cc
body_alike (b ∷ bs) (c ∷ cs) e = (heads b c bs cs e).rest

edge_alike : (enter other : ℕ → ℕ) → enter ≡ other → (x y : Fetch) → AreAlike x y → (p q : Pos) → FetchEdge enter x p q → FetchEdge other y p q
edge_alike enter other e (Here i) (Here j) same p q way =
    subst (λ (f : ℕ → ℕ). KindEdge f j.kind p q) e (subst (λ (z : Item). KindEdge enter z.kind p q) same way)
edge_alike enter other e (EndOfBlock k m) (EndOfBlock l n) same p q way =
    way ∙ ap (λ (z : ℕ). block_start (enter z)) same ∙ ap (λ (f : ℕ → ℕ). block_start (f n)) e
edge_alike enter other e Outside Outside same p q way = absurd way
edge_alike enter other e (Here i) (EndOfBlock l n) same p q way = absurd same
edge_alike enter other e (Here i) Outside same p q way = absurd same
edge_alike enter other e (EndOfBlock k m) (Here j) same p q way = absurd same
edge_alike enter other e (EndOfBlock k m) Outside same p q way = absurd same
edge_alike enter other e Outside (Here j) same p q way = absurd same
edge_alike enter other e Outside (EndOfBlock l n) same p q way = absurd same

tokens_alike : (resolve : OperandPair → Option OperandPair) (n : ℕ) (x y : Fetch) → AreAlike x y → (t : Tokens) →
    after_fetch resolve n x t ≡ after_fetch resolve n y t
tokens_alike resolve n (Here i) (Here j) same t = ap (λ (z : Item). after_fetch resolve n (Here z) t) same
tokens_alike resolve n (EndOfBlock k m) (EndOfBlock l o) same t = refl
tokens_alike resolve n Outside Outside same t = refl
tokens_alike resolve n (Here i) (EndOfBlock l o) same t = absurd same
tokens_alike resolve n (Here i) Outside same t = absurd same
tokens_alike resolve n (EndOfBlock k m) (Here j) same t = absurd same
tokens_alike resolve n (EndOfBlock k m) Outside same t = absurd same
tokens_alike resolve n Outside (Here j) same t = absurd same
tokens_alike resolve n Outside (EndOfBlock l o) same t = absurd same

module _ (blocks others : List Block) (resolve : OperandPair → Option OperandPair) (same : map contents_of blocks ≡ map contents_of others) where
  abbrev g : Program
  g = framed_program blocks resolve

  abbrev h : Program
  h = framed_program others resolve

  stands_alike : (p : Pos) → AreAlike (g.fetch p) (h.fetch p)
  stands_alike p = fetch_alike (drop p.block blocks) (drop p.block others) p.item (drop_alike p.block blocks others same)

  enters_alike : g.enter ≡ h.enter
  enters_alike = λ i n. suc (index_alike (body_of blocks) (body_of others) n (body_alike blocks others same) i)

  paths_alike : {n : ℕ} {p : Pos} {t : Tokens} → Path g (block_start 0) n p t → Path h (block_start 0) n p t
  paths_alike begin = begin
  paths_alike (onward {n} {p} {q} {t} path edge) =
      subst (λ (z : Tokens). Path h (block_start 0) (suc n) q z) (sym (tokens_alike resolve n (g.fetch p) (h.fetch p) (stands_alike p) t))
      (onward (paths_alike path) (edge_alike g.enter h.enter enters_alike (g.fetch p) (h.fetch p) (stands_alike p) p q edge))

sits_alike : (blocks others : List Block) (resolve : OperandPair → Option OperandPair) → map contents_of blocks ≡ map contents_of others →
    (v : VarId) (p : Pos) (place : Place) → SitsIn (framed_program blocks resolve) (block_start 0) v place p →
    SitsIn (framed_program others resolve) (block_start 0) v place p
sits_alike blocks others resolve same v p place sits = record {
  reached = (sits.reached.0, sits.reached.1, paths_alike blocks others resolve same sits.reached.2);
  same = λ n t path. sits.same n t (paths_alike others blocks resolve (sym same) path);
}

pub contents_tell_wanted : ContentsTellWanted
contents_tell_wanted blocks others resolve same v p place w = record {
  named = w.named;
  sits = sits_alike blocks others resolve same v p place w.sits;
  first = λ x named before sits. w.first x named before (sits_alike others blocks resolve (sym same) v p x sits);
}
