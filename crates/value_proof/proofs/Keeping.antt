-- A path to the position below an item comes by the item. What the item leaves alone has the token that it had before it, so part and
-- place share one below it too; and below the mark they share the mark's. Over the items in between by induction.
use Rattle.std.proofs.Common.{◌≡◌, ℕ, suc, ◌+◌, [], ◌∷◌, sym, ap, ◌∙◌, arith}
use Rattle.std.specs.Prelude.{Option, Some}
use Rattle.rv64_instr.specs.declared.place.Place.{Place}
use Rattle.mir_func.specs.declared.position.Pos.{Pos}
use Rattle.mir_func.specs.declared.variable.VarId.{VarId}
use Rattle.mir_func.specs.declared.item.Item.{Item}
use Rattle.mir_func.specs.declared.item.ItemKind.{ItemKind}
use Rattle.mir_func.specs.Graph.{Program, Fetch, Here, Edge, below, block_start}
use Rattle.sem_mir.specs.ValueId.{Token, Tokens, onward, after_fetch, Sits, mark_token, place_token, variable_token}
use Rattle.sem_mir.specs.PreferredLocation.{SitsIn}
use Rattle.sem_value_ids.specs.Pullback.{OfVariable, token_back, Was, back}
use Rattle.sem_value_ids.proofs.Backwards.{tokens_pull_back}
use Rattle.value_proof.specs.PreferredByClass.{thing_at}
use Rattle.value_proof.proofs.Passing.{path_above}
use Rattle.value_proof.specs.Kept.{LeavesAlone, IsKept, here, down, KeptValuesSit, KeptValuesAreWanted}
use Rattle.value_proof.proofs.Leaving.{place_kept, part_kept, mark_told, mark_keeps, place_thing}

no_start : (p : Pos) (n : ℕ) → block_start n ≡ below p → ⊥
no_start p n e = let item : 0 ≡ p.item + 1 = ap (λ (z : Pos). z.item) e in omega (arith, item)

module _ (g : Program) (start : ℕ) (v : VarId) (place : Place) where
  -- below an item, where before it one token was told and the place had it, and where the item gives the part what was told
  past : (p : Pos) (item : Item) (told : Tokens → Option Token) → g.fetch p ≡ Here item → Edge g p (below p) →
      ((n : ℕ) (t : Tokens) → token_back n t (back g.resolve 0 item.kind (OfVariable v)) ≡ told t) →
      back g.resolve 0 item.kind (thing_at place) ≡ Was (thing_at place) →
      Sits g (block_start start) told (place_token (Some place)) p → SitsIn g (block_start start) v place (below p)
  past p item told stands edge gives keeps sits = record {
    reached = let (n, t, path) = sits.reached in (suc n, after_fetch g.resolve n (g.fetch p) t, onward path edge);
    same = λ m u path.
        let above = path_above p (no_start p start) path in
        let n = above.count in
        let t = above.tokens in
        let passed = above.passed ∙ ap (λ (f : Fetch). after_fetch g.resolve n f t) stands in
        let (k, named, held) = sits.same n t above.path in (
          k,
          ap (variable_token v) passed ∙ tokens_pull_back g.resolve n (item ∷ []) t (OfVariable v) ∙ gives n t ∙ named,
          ap (place_token (Some place)) passed ∙ sym (place_thing place (after_fetch g.resolve n (Here item) t))
              ∙ tokens_pull_back g.resolve n (item ∷ []) t (thing_at place) ∙ ap (token_back n t) keeps ∙ place_thing place t ∙ held,
        );
  }

  stays : (p : Pos) (item : Item) → g.fetch p ≡ Here item → Edge g p (below p) → LeavesAlone v place item.kind →
      SitsIn g (block_start start) v place p → SitsIn g (block_start start) v place (below p)
  stays p item stands edge leaves =
      past p item (variable_token v) stands edge (λ n t. ap (token_back n t) (part_kept g.resolve v place item.kind leaves))
      (place_kept g.resolve v place item.kind leaves)

  kept_down : {q p : Pos} → IsKept g v place q p → SitsIn g (block_start start) v place p → SitsIn g (block_start start) v place q
  kept_down here sits = sits
  kept_down (down {p = p} item stands edge leaves more) sits = kept_down more (stays p item stands edge leaves sits)

pub kept_values_sit : KeptValuesSit
kept_values_sit g start v place p q is =
    kept_down g start v place is.kept
    (past g start v place p is.mark (mark_token g.resolve is.value) is.stands is.edge
    (λ n t. ap (λ (k : ItemKind). token_back n t (back g.resolve 0 k (OfVariable v))) is.marks ∙ mark_told g.resolve n t v is.value)
    (ap (λ (k : ItemKind). back g.resolve 0 k (thing_at place)) is.marks ∙ mark_keeps g.resolve v is.value place) is.sits)

pub kept_values_are_wanted : KeptValuesAreWanted
kept_values_are_wanted g start v place p q named is none = none place named (kept_values_sit g start v place p q is)
