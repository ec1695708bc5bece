-- A function that is folded, with what is known of it.
use Rattle.std.proofs.Common.{◌≡◌, ℕ, ◌+◌, List, [], ◌∷◌, map, All, Option, Bool, true, false}
use Rattle.std.proofs.Common.{refl}
use Rattle.std.proofs.Common.{ap, ◌∙◌, subst, arith}
use Rattle.std.proofs.lemmas.List.Elements.{All-contains}
use Rattle.std.proofs.lemmas.Option.{get_or_from_slice_get}
use Rattle.rv64_instr.specs.Row.{Row, Branches, Jumps, Returns, Unfit, row_of}
use Rattle.mir_func.specs.declared.block.Block.{Block}
use Rattle.mir_func.specs.declared.debug_substitution.OperandPair.{OperandPair}
use Rattle.mir_func.specs.declared.exit.Exit.TheVariants.{Onward, Perhaps, Final}
use Rattle.mir_func.specs.declared.item.Item.{Item}
use Rattle.mir_func.specs.declared.item.ItemKind.{ItemKind}
use Rattle.mir_func.specs.declared.item.ItemKind.TheVariants.{Code, Mark, Phi}
use Rattle.mir_func.specs.declared.position.Pos.{Pos}
use Rattle.mir_func.specs.declared.position.Origin.{Origin}
use Rattle.mir_func.specs.declared.position.Origin.TheVariants.{Kept}
use Rattle.mir_func.specs.Exits.{row_exit, exit_of}
use Rattle.mir_func.specs.Function.{Function}
use Rattle.mir_func.specs.Graph.{Program, Here, below, block_start, fetch_in, from_block, program_of, KindEdge, RowEdge, FetchEdge}
use Rattle.mir_func.specs.Sound.{AllItems, AreApart, ids_of, OriginIn, IsSound, HasForm}
use Rattle.sem_mir.specs.State.{Core, State}
use Rattle.sem_mir.specs.Step.{Falls, Goes, Went, do_item, step}
use Rattle.sem_mir.specs.Align.{is_code, is_jump, is_jump_row, waits_at, moves_on, Count, since_of, After}
use Rattle.sem_mir.specs.Follow.{OnRow, IsEnd, InOrder}
use Rattle.sem_mir.proofs.Edges.{step_edge}
use Rattle.sem_mir.proofs.Outcomes.{step_item}
use Rattle.sem_mir.proofs.Reading.{found_in, front_item, within_list}
use Rattle.sem_simulation.specs.MatchStates.{since_item}
use Rattle.fold_targets.specs.Ways.{EndsAt}
use Rattle.fold_targets.specs.Leads.{lead}
use Rattle.fold_rule.specs.Turned.{with_code}
use Rattle.fold_rule_proof.proofs.Rows.{Leads}
use Rattle.rv64_instr.specs.Instruction.{Instruction}
use Rattle.fold_rule_proof.specs.Kills.{with_kills, IsFoldedWithKills}
use Rattle.fold_rule_proof.proofs.KillSound.{sound_killed}
use Rattle.fold_proof.specs.Runs.{EndsAreKept}
use Rattle.fold_proof.proofs.Placed.{Found, made}
use Rattle.fold_proof.proofs.Ways.{Was, was_before, reached_found, targets_of}

pub record Folding : Type 0 where
  pub f : Function
  pub g : Function
  pub sound : IsSound f
  pub forms : AllItems (λ i. HasForm i.kind) f.blocks
  pub kills : IsFoldedWithKills f g
  pub resolve : OperandPair → Option OperandPair
  pub kept : EndsAreKept (program_of false f.blocks resolve)
  pub order : All (λ (b : Block). InOrder b.id 0 b.items) f.blocks

-- ---- ends of blocks

end_row : (r : Row) → Leads (row_exit r) → IsEnd r
end_row (Branches op a b t) h = tt
end_row (Jumps t) h = tt
end_row _ h = absurd h

pub end_kind : (k : ItemKind) → Leads (exit_of k) → OnRow IsEnd k
end_kind (Code i n) h = end_row (row_of i) h
end_kind (Mark v m) h = absurd h
end_kind (Phi p n) h = absurd h

pub code_leads : (k : ItemKind) → Leads (exit_of k) → is_code k ≡ true
code_leads (Code i n) h = refl
code_leads (Mark v m) h = absurd h
code_leads (Phi p n) h = absurd h

pub code_final : (k : ItemKind) → exit_of k ≡ Final → is_code k ≡ true
code_final (Code i n) h = refl
code_final (Mark v m) h = cc
code_final (Phi p n) h = cc

pub branch_no_jump : (k : ItemKind) (t : ℕ) → exit_of k ≡ Perhaps t → is_jump k ≡ false
branch_no_jump (Code i n) t h = by_row (row_of i) h where
  by_row : (r : Row) → row_exit r ≡ Perhaps t → is_jump_row r ≡ false
  by_row (Jumps m) e = cc
  by_row _ e = refl
branch_no_jump (Mark v m) t h = refl
branch_no_jump (Phi p n) t h = refl

pub still_code : (h : Instruction → Instruction) (k : ItemKind) → is_code (with_code h k) ≡ is_code k
still_code h (Code i n) = refl
still_code h (Mark v m) = refl
still_code h (Phi p n) = refl

-- after what is kept the source moves on
pub kept_after : (count : Count) (x : Item) (p : Pos) → x.origin ≡ Kept p → since_item count x ≡ After
kept_after count x p e = ap (λ (o : Origin). since_of (waits_at (moves_on count x.kind) o)) e

-- what holds of each item holds of one that stands somewhere
pub at_item : (P : Item → Type 0) (sp : Bool) (blocks : List Block) (resolve : OperandPair → Option OperandPair) → All (λ (b : Block). All P b.items) blocks →
    (p : Pos) (i : Item) → (program_of sp blocks resolve).fetch p ≡ Here i → P i
at_item P sp blocks resolve all p i e = by_blocks (from_block blocks p.block) refl e where
  by_blocks : (bs : List Block) → from_block blocks p.block ≡ bs → fetch_in bs p.item ≡ Here i → P i
  by_blocks [] h e = cc
  by_blocks (b ∷ bs) h e =
      let at = front_item b.items p.item b.source_end bs i e in
      subst P (get_or_from_slice_get b.items p.item i i at)
      (All-contains (λ (b : Block). All P b.items) blocks b all (found_in blocks p.block b bs h).0 p.item i (within_list b.items p.item i at))

-- ---- where control goes from an item

edge_kind : (g : Program) (x : Item) (p : Pos) (c : Core) (u : State) → g.fetch p ≡ Here x → step g (record { pos = p; core = c }) ≡ Went u →
    KindEdge g.enter x.kind p u.pos
edge_kind g x p c u at went =
    subst (λ (z : Rattle.mir_func.specs.Graph.Fetch). FetchEdge g.enter z p u.pos) at (step_edge g (record { pos = p; core = c }) u went)

pub onward_edge : (enter : ℕ → ℕ) (k : ItemKind) (p : Pos) (n : ℕ) → exit_of k ≡ Onward → KindEdge enter k p (block_start n) → ⊥
onward_edge enter (Code i m) p n e h = by_row (row_of i) e h where
  by_row : (r : Row) → row_exit r ≡ Onward → RowEdge enter r p (block_start n) → ⊥
  by_row (Branches op a b t) e h = cc
  by_row (Jumps t) e h = cc
  by_row (Returns v) e h = h
  by_row Unfit e h = h
  by_row _ e h = let k : 0 ≡ p.item + 1 = ap (λ (q : Pos). q.item) h in omega (arith, k)
onward_edge enter (Mark v m) p n e h = let k : 0 ≡ p.item + 1 = ap (λ (q : Pos). q.item) h in omega (arith, k)
onward_edge enter (Phi q m) p n e h = let k : 0 ≡ p.item + 1 = ap (λ (q : Pos). q.item) h in omega (arith, k)

final_edge : (enter : ℕ → ℕ) (k : ItemKind) (p q : Pos) → exit_of k ≡ Final → KindEdge enter k p q → ⊥
final_edge enter (Code i m) p q e h = by_row (row_of i) e h where
  by_row : (r : Row) → row_exit r ≡ Final → RowEdge enter r p q → ⊥
  by_row (Returns v) e h = h
  by_row Unfit e h = h
  by_row _ e h = cc
final_edge enter (Mark v m) p q e h = cc
final_edge enter (Phi r m) p q e h = cc

module _ (g : Program) (enter : (n : ℕ) → g.enter n ≡ n) (x : Item) (p : Pos) (at : g.fetch p ≡ Here x) (c : Core) where
  pub onward_never_goes : exit_of x.kind ≡ Onward → (n : ℕ) (e : Core) → do_item g x.kind c ≡ Goes n e → ⊥
  onward_never_goes h n e does =
      onward_edge g.enter x.kind p (g.enter n) h
      (edge_kind g x p c (record { pos = block_start (g.enter n); core = e }) at (step_item g (record { pos = p; core = c }) x (Goes n e) at does))

  pub final_never_falls : exit_of x.kind ≡ Final → (e : Core) → do_item g x.kind c ≡ Falls e → ⊥
  final_never_falls h e does =
      final_edge g.enter x.kind p (below p) h
      (edge_kind g x p c (record { pos = below p; core = e }) at (step_item g (record { pos = p; core = c }) x (Falls e) at does))

  pub final_never_goes : exit_of x.kind ≡ Final → (n : ℕ) (e : Core) → do_item g x.kind c ≡ Goes n e → ⊥
  final_never_goes h n e does =
      final_edge g.enter x.kind p (block_start (g.enter n)) h
      (edge_kind g x p c (record { pos = block_start (g.enter n); core = e }) at (step_item g (record { pos = p; core = c }) x (Goes n e) at does))

-- ---- the two functions

module _ (fold : Folding) where
  abbrev pub old : List Block
  old = fold.f.blocks

  abbrev pub end : ℕ → ℕ
  end = fold.kills.folded.end

  abbrev pub stays : ℕ → Bool
  stays = fold.kills.folded.stays

  abbrev pub was : ℕ → Bool
  was = fold.kills.was

  abbrev pub new : List Block
  new = made end stays was old old

  abbrev pub fp : Program
  fp = program_of false old fold.resolve

  abbrev pub gp : Program
  gp = program_of false new fold.resolve

  pub new_is : fold.g.blocks ≡ new
  new_is = ap (λ (z : Function). z.blocks) fold.kills.killed ∙ ap (map (with_kills end was old)) fold.kills.folded.blocks

  abbrev sound_new : IsSound fold.g
  sound_new = sound_killed fold.f fold.g fold.sound fold.kills

  pub origins_new : All (λ (b : Block). All (λ (i : Item). OriginIn b i.origin) b.items) new
  origins_new = subst (λ (bs : List Block). All (λ (b : Block). All (λ (i : Item). OriginIn b i.origin) b.items) bs) new_is sound_new.origins

  pub apart_new : AreApart (ids_of new)
  apart_new = subst (λ (bs : List Block). AreApart (ids_of bs)) new_is sound_new.blocks_apart

  abbrev pub ends : (n : ℕ) → EndsAt (lead old) n (end n)
  ends = fold.kills.folded.ends

  pub found_staying : (n : ℕ) → stays n ≡ true → Found old n
  found_staying n s = reached_found old fold.sound.blocks_apart end ends (targets_of fold.f fold.sound) ((fold.kills.folded.reached n).0 s)

  pub was_staying : (n : ℕ) → stays n ≡ true → Was old fold.sound.blocks_apart n
  was_staying n s = was_before old fold.sound.blocks_apart end ends ((fold.kills.folded.reached n).0 s)

  pub form_at : (p : Pos) (x : Item) → fp.fetch p ≡ Here x → HasForm x.kind
  form_at p x at = at_item (λ (i : Item). HasForm i.kind) false old fold.resolve fold.forms p x at

  pub after_end : (count : Count) (p : Pos) (x : Item) → fp.fetch p ≡ Here x → Leads (exit_of x.kind) → since_item count x ≡ After
  after_end count p x at leads = let w = fold.kept p x at (end_kind x.kind leads) in kept_after count x w.0 w.1
