-- Runs of a function whose marks ask for the numbers of phis right before them are those of the function whose marks ask for the registers.
use Rattle.std.proofs.Common.{◌≡◌, ◌⊎◌, inl, inr, ℕ, ◌<◌, List, ◌∷◌, Option, Some, true, false, refl, sym, ap, ◌∙◌, subst, arith}
use Rattle.mir_func.specs.declared.block.Block.{Block}
use Rattle.mir_func.specs.declared.debug_substitution.DebugSubstitution.{DebugSubstitution}
use Rattle.mir_func.specs.declared.debug_substitution.OperandPair.{OperandPair}
use Rattle.mir_func.specs.declared.item.ItemKind.{ItemKind}
use Rattle.mir_func.specs.declared.item.ItemKind.TheVariants.{Code, Mark, Phi}
use Rattle.mir_func.specs.declared.location.Loc.{Loc}
use Rattle.mir_func.specs.declared.position.Origin.{Origin}
use Rattle.mir_func.specs.declared.position.Pos.{Pos}
use Rattle.mir_func.specs.declared.variable.MarkValue.TheVariants.{Nothing, Constant, At, Pair}
use Rattle.mir_func.specs.declared.variable.VarId.{VarId}
use Rattle.mir_func.specs.Graph.{Program, Fetch, Here, EndOfBlock, Outside, below, block_start, program_of}
use Rattle.mir_func.specs.Resolve.{resolve}
use Rattle.sem_mir.specs.State.{Core, State, updated}
use Rattle.sem_mir.specs.Step.{Outcome, Falls, Goes, Gives, Traps, Asks, Breaks, Went, seen, pair_value, part_of}
use Rattle.sem_mir.specs.Step.{do_item, do_fetch, moved, step}
use Rattle.sem_mir.specs.Align.{SyncPoint, Count, sync_point_at, fetch_sync_point, AnyOrigin, MatchedUpTo, begin, other, met, Agrees, Since, MatchesNext}
use Rattle.sem_mir.specs.Align.{FailsBefore, RunsMatch}
use Rattle.sem_mir.proofs.Places.{updated_same}
use Rattle.pass_trait.specs.Rule.{item, first_operand}
use Rattle.spill_proof.proofs.Low.{LowEntries, resolve_high}
use Rattle.spill_proof.proofs.Remarked.{BlocksReask}
use Rattle.spill_proof.proofs.Reasked.{FetchLike, alike, mark_asks, has_register_mark, IsAbove, fetch_like, start_same, stands_above}

module _ (least : ℕ) (fs gs : List Block) (rel : BlocksReask least fs gs) (subs : List DebugSubstitution) (low : LowEntries least subs) where
  abbrev fp : Program
  fp = program_of false fs (resolve subs)

  abbrev gp : Program
  gp = program_of false gs (resolve subs)

  -- where a mark asks for a number, the pair has the register's content
  abbrev pub IsReady : State → Type 0
  IsReady t = (v w : VarId) (r : ℕ) (q : OperandPair) (o o' : Origin) (l l' : Loc) → fp.fetch t.pos ≡ Here (item (Mark v (At r)) o l) →
      gp.fetch t.pos ≡ Here (item (Mark w (Pair q)) o' l') → pair_value (resolve subs q) t.core ≡ seen false r t.core

  do_same : (x : Fetch) (c : Core) → do_fetch gp x c ≡ do_fetch fp x c
  do_same (Here i) c = by_kind i.kind where
    by_kind : (k : ItemKind) → do_item gp k c ≡ do_item fp k c
    by_kind (Code i n) = refl
    by_kind (Mark v Nothing) = refl
    by_kind (Mark v (Constant z)) = refl
    by_kind (Mark v (At r)) = refl
    by_kind (Mark v (Pair q)) = refl
    by_kind (Phi p n) = refl
  do_same (EndOfBlock k n) c = refl
  do_same Outside c = refl

  step_same : (t : State) → IsReady t → step gp t ≡ step fp t
  step_same t ready = by_fetch (fp.fetch t.pos) (gp.fetch t.pos) (fetch_like least fs gs rel (resolve subs) t.pos) refl refl where
    by_fetch : (x y : Fetch) → FetchLike x y → fp.fetch t.pos ≡ x → gp.fetch t.pos ≡ y →
        moved (λ n. n) t.pos (do_fetch gp y t.core) ≡ moved (λ n. n) t.pos (do_fetch fp x t.core)
    by_fetch x y (alike e) h h' =
        ap (λ (z : Fetch). moved (λ n. n) t.pos (do_fetch gp z t.core)) e ∙ ap (moved (λ n. n) t.pos) (do_same x t.core)
    by_fetch x y (mark_asks {v} {r} {k} {o} {l}) h h' =
        ap (λ (z : Option ℕ). Went (record { pos = below t.pos; core = record t.core { marks = (v, part_of v z) ∷ t.core.marks } }))
        (ready v v r (first_operand k) o o l l h h')

  -- ---- the next state is ready too

  went : (p : Pos) (x : Outcome) (t : State) → moved (λ n. n) p x ≡ Went t →
      ((c : Core) × (x ≡ Falls c) × (record { pos = below p; core = c } ≡ t)) ⊎ ((n : ℕ) × (c : Core) × (record { pos = block_start n; core = c } ≡ t))
  went p (Falls c) t e = inl (c, refl, cc)
  went p (Goes n c) t e = inr (n, c, cc)
  went p (Gives v) t e = cc
  went p Traps t e = cc
  went p Asks t e = cc
  went p Breaks t e = cc

  ready_start : (n : ℕ) (c : Core) → IsReady (record { pos = block_start n; core = c })
  ready_start n c v w r q o o' l l' h e =
      let bad : true ≡ false = ap has_register_mark (sym h ∙ sym (start_same least fs gs rel (resolve subs) n) ∙ e) in
      cc

  above_ready : (p : Pos) (c d : Core) (r : ℕ) (q : OperandPair) → IsAbove least (fp.fetch p) r q → do_fetch fp (fp.fetch p) c ≡ Falls d →
      pair_value (resolve subs q) d ≡ seen false r d
  above_ready p c d r q a falls =
      let k : ℕ = a.number in
      let value : ℕ → Option ℕ = updated 0 (seen false r c) (c.pairs k) in
      let after : Core = record c { pairs = updated k value c.pairs } in
      let does : Falls after ≡ Falls d = sym (ap (λ (x : Fetch). do_fetch fp x c) a.phi) ∙ falls in
      let is : after ≡ d = cc in
      let far : (first_operand k).number < least → ⊥ = (let le = a.fresh in λ lt. omega (arith, le, lt)) in
      let ends : resolve subs q ≡ Some (first_operand k) = ap (resolve subs) a.pair ∙ resolve_high least subs low (first_operand k) far in
      ap (λ (x : Option OperandPair). pair_value x d) ends ∙ ap (λ (e : Core). e.pairs k 0) (sym is) ∙
      ap (λ (z : ℕ → Option ℕ). z 0) (updated_same k value c.pairs) ∙ updated_same 0 (seen false r c) (c.pairs k) ∙ ap (λ (e : Core). seen false r e) is

  next_ready : (t t' : State) → step fp t ≡ Went t' → IsReady t'
  next_ready t t' e = by_outcome (went t.pos (do_fetch fp (fp.fetch t.pos) t.core) t' e) where
    by_outcome : ((c : Core) × (do_fetch fp (fp.fetch t.pos) t.core ≡ Falls c) × (record { pos = below t.pos; core = c } ≡ t')) ⊎
        ((n : ℕ) × (c : Core) × (record { pos = block_start n; core = c } ≡ t')) → IsReady t'
    by_outcome (inl (c, falls, is)) = subst IsReady is
        (λ v w r q o o' l l' h k. above_ready t.pos t.core c r q (stands_above least fs gs rel (resolve subs) t.pos v w r q o o' l l' h k) falls)
    by_outcome (inr (n, c, is)) = subst IsReady is (ready_start n c)

  -- ---- along the source

  sync_point_same : (ct : Count) (p : Pos) → sync_point_at ct gp p ≡ sync_point_at ct fp p
  sync_point_same ct p = by_fetch (fp.fetch p) (gp.fetch p) (fetch_like least fs gs rel (resolve subs) p) where
    by_fetch : (x y : Fetch) → FetchLike x y → fetch_sync_point ct p.block y ≡ fetch_sync_point ct p.block x
    by_fetch x y (alike e) = ap (fetch_sync_point ct p.block) e
    by_fetch x y mark_asks = refl

  sync_points_same : (ct : Count) → sync_point_at ct gp ≡ sync_point_at ct fp
  sync_points_same ct i = λ p. sync_point_same ct p i

  module _ (src : Program) (sync_points : Pos → Option SyncPoint) (Stops : Pos → Pos → Type 0) (s0 : State) (ready : IsReady s0) where
    along_same : {t s : State} {m : Since} → MatchedUpTo src gp sync_points Stops s0 s0 t s m → MatchedUpTo src fp sync_points Stops s0 s0 t s m × IsReady t
    along_same begin = (begin, ready)
    along_same {t = t'} (other {t = t} a none goes) =
        let w = along_same a in
        let steps : step fp t ≡ Went t' = sym (step_same t w.1) ∙ goes in
        (other w.0 none steps, next_ready t t' steps)
    along_same {t = t'} (met {t = t} i a stands aligned goes) =
        let w = along_same a in
        let steps : step fp t ≡ Went t' = sym (step_same t w.1) ∙ goes in
        (met i w.0 stands aligned steps, next_ready t t' steps)

    agrees : (t s : State) → IsReady t → Agrees src fp t s → Agrees src gp t s
    agrees t s r a = record {
      events = a.events;
      told = a.told;
      returns = λ results e. a.returns results (sym (step_same t r) ∙ e);
      faults = λ e. a.faults (sym (step_same t r) ∙ e);
    }

    runs_same : RunsMatch src fp sync_points Stops s0 s0 → RunsMatch src gp sync_points Stops s0 s0
    runs_same runs t s m i along stands = by_runs (runs t s m i w.0 stands) where
      w : MatchedUpTo src fp sync_points Stops s0 s0 t s m × IsReady t
      w = along_same along

      by_runs : ((s' : State) × MatchesNext src (Stops i.pos) i.pos m s s' × Agrees src fp t s') ⊎ FailsBefore src (Stops i.pos) i.pos m s →
          ((s' : State) × MatchesNext src (Stops i.pos) i.pos m s s' × Agrees src gp t s') ⊎ FailsBefore src (Stops i.pos) i.pos m s
      by_runs (inl (s', aligned, a)) = inl (s', aligned, agrees t s' w.1 a)
      by_runs (inr fails) = inr fails

  -- from the start of a block
  pub runs_on : (ct : Count) (src : Program) (n : ℕ) (s : State) → s.pos ≡ block_start n →
      RunsMatch src fp (sync_point_at ct fp) (AnyOrigin (sync_point_at ct fp)) s s →
      RunsMatch src gp (sync_point_at ct gp) (AnyOrigin (sync_point_at ct gp)) s s
  runs_on ct src n s starts runs =
      let ready : IsReady s = subst IsReady (λ i. record { pos = sym starts i; core = s.core }) (ready_start n s.core) in
      subst (λ (st : Pos → Option SyncPoint). RunsMatch src gp st (AnyOrigin st) s s) (sym (sync_points_same ct))
      (runs_same src (sync_point_at ct fp) (AnyOrigin (sync_point_at ct fp)) s ready runs)
