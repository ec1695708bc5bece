-- Two cores of which the second tells no more, but for what kills to come take away.
use Rattle.std.proofs.Common.{◌≡◌, ◌⊎◌, ℕ, zero, suc, List, [], ◌∷◌, Option, Some, None, Bool, true, false, cond, ◌||◌, nat_eq, slice_get, refl, sym, ap, ◌∙◌}
use Rattle.std.proofs.Common.{subst, inl, inr, eq-eqb}
use Rattle.std.specs.List.{list_any, list_all}
use Rattle.std.proofs.lemmas.Bool.{and_parts, eqb-true}
use Rattle.rv64_instr.specs.declared.op.Op.{Op}
use Rattle.rv64_instr.specs.declared.op.Op.TheVariants.{Registers, Immediate, Lui, Branch, Load, Store, Copy}
use Rattle.rv64_instr.specs.declared.op.Op.TheVariants.{PseudoBr, PseudoCall, PseudoRet, PseudoCallIndirect}
use Rattle.rv64_instr.specs.declared.op.Op.TheVariants.{PseudoTail, PseudoTailIndirect, NoReturnCall, NoReturnCallIndirect}
use Rattle.fold_rule.specs.Turned.{aimed}
use Rattle.rv64_instr.specs.declared.op.BranchOp.{BranchOp}
use Rattle.rv64_instr.specs.declared.operand.Operand.{Operand}
use Rattle.rv64_instr.specs.declared.operand.Operand.TheVariants.{Use, ImplicitDef, ImplicitUse, Block as OfBlock}
use Rattle.rv64_instr.specs.Form.{is_implicit, has_form}
use Rattle.rv64_instr.specs.Arithmetic.{taken}
use Rattle.rv64_instr.specs.Row.{Branches, Jumps, row_of, row_by}
use Rattle.rv64_instr.specs.LocationEffects.{is_call}
use Rattle.mir_func.specs.declared.exit.Exit.TheVariants.{Perhaps, Always}
use Rattle.mir_func.specs.declared.item.Item.{Item}
use Rattle.mir_func.specs.declared.item.ItemKind.{ItemKind}
use Rattle.mir_func.specs.declared.item.ItemKind.TheVariants.{Code, Mark, Phi}
use Rattle.mir_func.specs.declared.variable.VarId.{VarId}
use Rattle.mir_func.specs.declared.variable.MarkValue.TheVariants.{Nothing}
use Rattle.mir_func.specs.Exits.{exit_of, row_exit}
use Rattle.mir_func.specs.Graph.{Program}
use Rattle.mir_func.specs.Variables.{is_same, overlaps}
use Rattle.mir_func.specs.Sound.{HasForm}
use Rattle.sem_mir.specs.State.{Core, updated, assigned}
use Rattle.sem_mir.specs.Step.{Outcome, Falls, Goes, Traps, act, does, are_written, read, with_core, numbered, given, defined, part_of}
use Rattle.sem_mir.specs.Step.{mark_value, place_value, do_item}
use Rattle.sem_mir.proofs.Effects.{told_by}
use Rattle.sem_mir.proofs.Told.{Below, TellsLess}
use Rattle.sem_simulation.specs.MatchStates.{Does, ShowsSame}
use Rattle.sem_simulation.specs.Rewired.{Jumps as JumpsTo}
use Rattle.fold_rule_proof.proofs.Kills.{IsKillKind}
use Rattle.fold_rule_proof.proofs.Rows.{IsEnding, branch, jump, is_ending, leads_by, leads_always}

-- a kill takes away what a part of a variable was assigned that it is or overlaps, and what its number gave
abbrev pub kills_part : VarId → ItemKind → Bool
kills_part v (Mark w m) = is_same v w || overlaps v w
kills_part v (Phi p k) = false
kills_part v (Code i k) = false

abbrev pub kills_number : ℕ → ItemKind → Bool
kills_number n (Phi p k) = nat_eq n k
kills_number n (Mark w m) = false
kills_number n (Code i k) = false

abbrev pub part_killed : List Item → VarId → Bool
part_killed ks v = list_any (λ i. kills_part v i.kind) ks

abbrev pub number_killed : List Item → ℕ → Bool
number_killed ks n = list_any (λ i. kills_number n i.kind) ks

-- d is c but for pairs and marks, and there it has less, but for what the kills take away
pub record MatchCores (ks : List Item) (c d : Core) : Type 0 where
  pub same : told_by d.pairs d.marks c ≡ d
  pub pairs : (k o : ℕ) → (o ≡ 0 → number_killed ks k ≡ false) → Below (c.pairs k o) (d.pairs k o)
  pub marks : (v : VarId) → part_killed ks v ≡ false → Below (assigned v c.marks) (assigned v d.marks)

pub kin_itself : (ks : List Item) (c : Core) → MatchCores ks c c
kin_itself ks c = record { same = refl; pairs = λ k o e v h. h; marks = λ v e x h. h }

pub kin_more : (ks : List Item) (c d : Core) → TellsLess c d → MatchCores ks c d
kin_more ks c d h = record { same = h.same; pairs = λ k o e. h.pairs k o; marks = λ v e. h.marks v }

pub kin_less : (c d : Core) → MatchCores [] c d → TellsLess c d
kin_less c d h = record { same = h.same; pairs = λ k o. h.pairs k o (λ z. refl); marks = λ v. h.marks v refl }

pub kin_shows : (c d : Core) → MatchCores [] c d → ShowsSame c d
kin_shows c d h = record { events = ap (λ (z : Core). z.events) (sym h.same); told = λ v x e. h.marks v refl x e }

or_false : (x y : Bool) → x ≡ false → y ≡ false → (x || y) ≡ false
or_false x y e k = λ i. e i || k i

-- ---- a kill runs

pub kin_kill : (g : Program) (i : Item) (ks : List Item) (c d : Core) → IsKillKind i.kind → MatchCores (i ∷ ks) c d → Does g i d (λ e. MatchCores ks c e)
kin_kill g i ks c d kill h = by_kind i.kind kill (λ k o. h.pairs k o) (λ v. h.marks v) where
  by_kind : (k : ItemKind) → IsKillKind k →
      ((n o : ℕ) → (o ≡ 0 → (kills_number n k || number_killed ks n) ≡ false) → Below (c.pairs n o) (d.pairs n o)) →
      ((v : VarId) → (kills_part v k || part_killed ks v) ≡ false → Below (assigned v c.marks) (assigned v d.marks)) →
      (e : Core) × (do_item g k d ≡ Falls e) × MatchCores ks c e
  by_kind (Mark w m) kill pairs marks = by_value m kill where
    by_value : (m : Rattle.mir_func.specs.declared.variable.MarkValue.MarkValue) → IsKillKind (Mark w m) →
        (e : Core) × (do_item g (Mark w m) d ≡ Falls e) × MatchCores ks c e
    by_value Nothing kill = (
      record d { marks = (w, None) ∷ d.marks },
      refl,
      record {
        same = ap (λ (z : Core). record z { marks = (w, None) ∷ d.marks }) h.same;
        pairs = λ n o e. pairs n o e;
        marks = λ v e. by_tests v (is_same v w) (overlaps v w) (λ s t. marks v (or_false (is_same v w || overlaps v w) (part_killed ks v)
            (or_false (is_same v w) (overlaps v w) s t) e));
      },
    ) where
      by_tests : (v : VarId) (s t : Bool) → (s ≡ false → t ≡ false → Below (assigned v c.marks) (assigned v d.marks)) →
          Below (assigned v c.marks) (cond s None (cond t None (assigned v d.marks)))
      by_tests v true t f x e = cc
      by_tests v false true f x e = cc
      by_tests v false false f x e = f refl refl x e
    by_value _ kill = absurd kill
  by_kind (Phi None n) kill pairs marks = (
    record d { pairs = updated n (updated 0 None (d.pairs n)) d.pairs },
    refl,
    record {
      same = ap (λ (z : Core). record z { pairs = updated n (updated 0 None (d.pairs n)) d.pairs }) h.same;
      pairs = after;
      marks = λ v e. marks v e;
    },
  ) where
    after : (k o : ℕ) → (o ≡ 0 → number_killed ks k ≡ false) → Below (c.pairs k o) (updated n (updated 0 None (d.pairs n)) d.pairs k o)
    after k o e = by_number (nat_eq k n) refl where
      by_operand : nat_eq k n ≡ true → (y : Bool) → nat_eq o 0 ≡ y → Below (c.pairs k o) (cond y None (d.pairs n o))
      by_operand t true u x q = cc
      by_operand t false u x q = subst (λ (m : ℕ). Below (c.pairs k o) (d.pairs m o)) (eqb-true k n t)
          (pairs k o (λ z. absurd (let bad : false ≡ true = sym u ∙ eq-eqb o 0 z in cc))) x q

      by_number : (z : Bool) → nat_eq k n ≡ z → Below (c.pairs k o) (cond z (updated 0 None (d.pairs n)) (d.pairs k) o)
      by_number true t = by_operand t (nat_eq o 0) refl
      by_number false t = pairs k o (λ z. or_false (nat_eq k n) (number_killed ks k) t (e z))
  by_kind (Phi (Some p) n) kill pairs marks = absurd kill
  by_kind (Code j n) kill pairs marks = absurd kill

-- ---- a debug item of a block that is bypassed runs

-- kills take away what the item gives
abbrev pub IsCovered : List Item → ItemKind → Type 0
IsCovered ks (Mark w m) = (v : VarId) → (is_same v w || overlaps v w) ≡ true → part_killed ks v ≡ true
IsCovered ks (Phi p n) = number_killed ks n ≡ true
IsCovered ks (Code i n) = ⊥

pub kin_debug : (f : Program) (x : Item) (ks : List Item) (c d : Core) → IsCovered ks x.kind → MatchCores ks c d → Does f x c (λ e. MatchCores ks e d)
kin_debug f x ks c d covered h = by_kind x.kind covered where
  by_kind : (k : ItemKind) → IsCovered ks k → (e : Core) × (do_item f k c ≡ Falls e) × MatchCores ks e d
  by_kind (Mark w m) covered = (
    record c { marks = (w, a) ∷ c.marks },
    refl,
    record {
      same = h.same;
      pairs = λ n o e. h.pairs n o e;
      marks = λ v e. by_tests v e (is_same v w) (overlaps v w) refl refl;
    },
  ) where
    a : Option ℕ
    a = part_of w (mark_value f m c)

    hidden : (v : VarId) → part_killed ks v ≡ false → (is_same v w || overlaps v w) ≡ true → ⊥
    hidden v e t = let bad : false ≡ true = sym e ∙ covered v t in cc

    by_tests : (v : VarId) → part_killed ks v ≡ false → (s t : Bool) → is_same v w ≡ s → overlaps v w ≡ t →
        Below (cond s a (cond t None (assigned v c.marks))) (assigned v d.marks)
    by_tests v e true t es et = absurd (hidden v e (λ i. es i || overlaps v w))
    by_tests v e false true es et = absurd (hidden v e (λ i. es i || et i))
    by_tests v e false false es et = h.marks v e
  by_kind (Phi p n) covered = (
    record c { pairs = updated n (updated 0 a (c.pairs n)) c.pairs },
    refl,
    record {
      same = h.same;
      pairs = after;
      marks = λ v e. h.marks v e;
    },
  ) where
    a : Option ℕ
    a = place_value p c

    after : (k o : ℕ) → (o ≡ 0 → number_killed ks k ≡ false) → Below (updated n (updated 0 a (c.pairs n)) c.pairs k o) (d.pairs k o)
    after k o e = by_number (nat_eq k n) refl where
      hidden : k ≡ n → o ≡ 0 → ⊥
      hidden same z = let bad : false ≡ true = sym (e z) ∙ ap (number_killed ks) same ∙ covered in cc

      by_operand : k ≡ n → (y : Bool) → nat_eq o 0 ≡ y → Below (cond y a (c.pairs n o)) (d.pairs k o)
      by_operand same true u = absurd (hidden same (eqb-true o 0 u))
      by_operand same false u = subst (λ (m : ℕ). Below (c.pairs m o) (d.pairs k o)) same (h.pairs k o e)

      by_number : (z : Bool) → nat_eq k n ≡ z → Below (cond z (updated 0 a (c.pairs n)) (c.pairs k) o) (d.pairs k o)
      by_number true t = by_operand (eqb-true k n t) (nat_eq o 0) refl
      by_number false t = h.pairs k o e
  by_kind (Code i n) covered = absurd covered

-- ---- a branch or a jump defines nothing, whatever its number

implicit_none : (rest : List Operand) (o : ℕ) → list_all is_implicit rest ≡ true → defined false (slice_get rest o) ≡ None
implicit_none [] o e = refl
implicit_none (x ∷ xs) zero e = by_operand x (and_parts (is_implicit x) (list_all is_implicit xs) e).0 where
  by_operand : (x : Operand) → is_implicit x ≡ true → defined false (Some x) ≡ None
  by_operand (ImplicitDef r) h = refl
  by_operand (ImplicitUse r) h = refl
  by_operand _ h = cc
implicit_none (x ∷ xs) (suc o) e = implicit_none xs o (and_parts (is_implicit x) (list_all is_implicit xs) e).1

branch_none : (a b t : ℕ) (rest : List Operand) (o : ℕ) → list_all is_implicit rest ≡ true → defined false (slice_get (Use a ∷ Use b ∷ OfBlock t ∷ rest) o) ≡
    None
branch_none a b t rest zero e = refl
branch_none a b t rest (suc zero) e = refl
branch_none a b t rest (suc (suc zero)) e = refl
branch_none a b t rest (suc (suc (suc o))) e = implicit_none rest o e

jump_none : (t : ℕ) (rest : List Operand) (o : ℕ) → list_all is_implicit rest ≡ true → defined false (slice_get (OfBlock t ∷ rest) o) ≡ None
jump_none t rest zero e = refl
jump_none t rest (suc o) e = implicit_none rest o e

kin_numbered : (sp : Bool) (m : Option ℕ) (os : List Operand) (ks : List Item) (c d : Core) → ((o : ℕ) → defined false (slice_get os o) ≡ None) →
    MatchCores ks c d → MatchCores ks (numbered sp false m os c) d
kin_numbered sp None os ks c d none h = h
kin_numbered sp (Some n) os ks c d none h = record { same = h.same; pairs = after; marks = λ v e. h.marks v e } where
  after : (k o : ℕ) → (o ≡ 0 → number_killed ks k ≡ false) →
      Below (updated n (λ o. given sp (defined false (slice_get os o)) (c.pairs n o) c) c.pairs k o) (d.pairs k o)
  after k o e = by_number (nat_eq k n) refl where
    by_number : (z : Bool) → nat_eq k n ≡ z →
        Below (cond z (λ o. given sp (defined false (slice_get os o)) (c.pairs n o) c) (c.pairs k) o) (d.pairs k o)
    by_number true t =
        let same : c.pairs k o ≡ given sp (defined false (slice_get os o)) (c.pairs n o) c =
        ap (λ (m : ℕ). c.pairs m o) (eqb-true k n t) ∙ ap (λ (q : Option ℕ). given sp q (c.pairs n o) c) (sym (none o)) in
        subst (λ (w : Option ℕ). Below w (d.pairs k o)) same (h.pairs k o e)
    by_number false t = h.pairs k o e

act_jump : (t : ℕ) (c : Core) → act (Jumps t) c ≡ Goes t c
act_jump t c = unfold act in unfold does in refl

act_branch : (op : BranchOp) (a b t : ℕ) (c : Core) →
    act (Branches op a b t) c ≡ cond (are_written c (a ∷ b ∷ [])) (cond (taken op (read c a) (read c b)) (Goes t c) (Falls c)) Traps
act_branch op a b t c = unfold act in unfold does in refl

-- a jump of f: it goes, and nothing else changes
jump_by : (sp : Bool) (m : Option ℕ) (op : Op) (os : List Operand) (n : ℕ) (ks : List Item) (c d : Core) → IsEnding op os → has_form op os ≡ true →
    row_exit (row_by op os) ≡ Always n → MatchCores ks c d →
    (e : Core) × (with_core (numbered sp (is_call (row_by op os)) m os) (act (row_by op os) c) ≡ Goes n e) × MatchCores ks e d
jump_by sp m _ _ n ks c d (jump {t} {rest}) form e h =
    let same : t ≡ n = cc in (
      numbered sp false m (OfBlock t ∷ rest) c,
      ap (with_core (numbered sp false m (OfBlock t ∷ rest))) (act_jump t c) ∙ ap (λ (z : ℕ). Goes z (numbered sp false m (OfBlock t ∷ rest) c)) same,
      kin_numbered sp m (OfBlock t ∷ rest) ks c d (λ o. jump_none t rest o form) h,
    )
jump_by sp m _ _ n ks c d branch form e h = cc

pub kin_jump : (f : Program) (x : Item) (n : ℕ) (ks : List Item) (c d : Core) → HasForm x.kind → exit_of x.kind ≡ Always n → MatchCores ks c d →
    JumpsTo f x c n (λ e. MatchCores ks e d)
kin_jump f x n ks c d form e h = by_kind x.kind form e where
  by_kind : (k : ItemKind) → HasForm k → exit_of k ≡ Always n → (e : Core) × (do_item f k c ≡ Goes n e) × MatchCores ks e d
  by_kind (Code i m) form e =
      jump_by f.sees_pointer m i.op i.operands n ks c d (is_ending i.op i.operands (leads_always (row_exit (row_of i)) n e)) form e h
  by_kind (Mark v m) form e = cc
  by_kind (Phi p m) form e = cc

-- a branch of f goes, falls or traps, and nothing else changes
abbrev pub BranchDoes : Outcome → ℕ → (Core → Type 0) → Type 0
BranchDoes o n P = ((e : Core) × (o ≡ Goes n e) × P e) ⊎ (((e : Core) × (o ≡ Falls e) × P e) ⊎ (o ≡ Traps))

branch_by : (sp : Bool) (m : Option ℕ) (op : Op) (os : List Operand) (n : ℕ) (ks : List Item) (c d : Core) → IsEnding op os → has_form op os ≡ true →
    row_exit (row_by op os) ≡ Perhaps n → MatchCores ks c d →
    BranchDoes (with_core (numbered sp (is_call (row_by op os)) m os) (act (row_by op os) c)) n (λ e. MatchCores ks e d)
branch_by sp m _ _ n ks c d (branch {op} {a} {b} {t} {rest}) form e h =
    let same : t ≡ n = cc in
    subst (λ (o : Outcome). BranchDoes (with_core (numbered sp false m os) o) n (λ e. MatchCores ks e d)) (sym (act_branch op a b t c))
    (by_tests same (are_written c (a ∷ b ∷ [])) (taken op (read c a) (read c b))) where
      os : List Operand
      os = Use a ∷ Use b ∷ OfBlock t ∷ rest

      c' : Core
      c' = numbered sp false m os c

      kin : MatchCores ks c' d
      kin = kin_numbered sp m os ks c d (λ o. branch_none a b t rest o form) h

      by_tests : t ≡ n → (written goes : Bool) →
          BranchDoes (with_core (numbered sp false m os) (cond written (cond goes (Goes t c) (Falls c)) Traps)) n (λ e. MatchCores ks e d)
      by_tests same true true = inl (c', ap (λ (z : ℕ). Goes z c') same, kin)
      by_tests same true false = inr (inl (c', refl, kin))
      by_tests same false goes = inr (inr refl)
branch_by sp m _ _ n ks c d jump form e h = cc

pub kin_branch : (f : Program) (x : Item) (n : ℕ) (ks : List Item) (c d : Core) → HasForm x.kind → exit_of x.kind ≡ Perhaps n → MatchCores ks c d →
    BranchDoes (do_item f x.kind c) n (λ e. MatchCores ks e d)
kin_branch f x n ks c d form e h = by_kind x.kind form e where
  by_kind : (k : ItemKind) → HasForm k → exit_of k ≡ Perhaps n → BranchDoes (do_item f k c) n (λ e. MatchCores ks e d)
  by_kind (Code i m) form e =
      branch_by f.sees_pointer m i.op i.operands n ks c d (is_ending i.op i.operands (leads_by (row_exit (row_of i)) n e)) form e h
  by_kind (Mark v m) form e = cc
  by_kind (Phi p m) form e = cc

-- ---- a jump of g goes, and nothing else changes

kin_numbered_new : (sp : Bool) (m : Option ℕ) (os : List Operand) (ks : List Item) (c d : Core) → ((o : ℕ) → defined false (slice_get os o) ≡ None) →
    MatchCores ks c d → MatchCores ks c (numbered sp false m os d)
kin_numbered_new sp None os ks c d none h = h
kin_numbered_new sp (Some n) os ks c d none h = record {
  same = ap (λ (z : Core). record z { pairs = given_all }) h.same;
  pairs = after;
  marks = λ v e. h.marks v e;
} where
  given_all : ℕ → ℕ → Option ℕ
  given_all = updated n (λ o. given sp (defined false (slice_get os o)) (d.pairs n o) d) d.pairs

  after : (k o : ℕ) → (o ≡ 0 → number_killed ks k ≡ false) → Below (c.pairs k o) (given_all k o)
  after k o e = by_number (nat_eq k n) refl where
    by_number : (z : Bool) → nat_eq k n ≡ z →
        Below (c.pairs k o) (cond z (λ o. given sp (defined false (slice_get os o)) (d.pairs n o) d) (d.pairs k) o)
    by_number true t =
        let same : d.pairs k o ≡ given sp (defined false (slice_get os o)) (d.pairs n o) d =
        ap (λ (m : ℕ). d.pairs m o) (eqb-true k n t) ∙ ap (λ (q : Option ℕ). given sp q (d.pairs n o) d) (sym (none o)) in
        subst (λ (w : Option ℕ). Below (c.pairs k o) w) same (h.pairs k o e)
    by_number false t = h.pairs k o e

new_jump_by : (sp : Bool) (m : Option ℕ) (op : Op) (os : List Operand) (n : ℕ) (ks : List Item) (c d : Core) → IsEnding op os → has_form op os ≡ true →
    row_exit (row_by op os) ≡ Always n → MatchCores ks c d →
    (e : Core) × (with_core (numbered sp (is_call (row_by op os)) m os) (act (row_by op os) d) ≡ Goes n e) × MatchCores ks c e
new_jump_by sp m _ _ n ks c d (jump {t} {rest}) form e h =
    let same : t ≡ n = cc in (
      numbered sp false m (OfBlock t ∷ rest) d,
      ap (with_core (numbered sp false m (OfBlock t ∷ rest))) (act_jump t d) ∙ ap (λ (z : ℕ). Goes z (numbered sp false m (OfBlock t ∷ rest) d)) same,
      kin_numbered_new sp m (OfBlock t ∷ rest) ks c d (λ o. jump_none t rest o form) h,
    )
new_jump_by sp m _ _ n ks c d branch form e h = cc

pub kin_new_jump : (g : Program) (k : ItemKind) (n : ℕ) (ks : List Item) (c d : Core) → HasForm k → exit_of k ≡ Always n → MatchCores ks c d →
    (e : Core) × (do_item g k d ≡ Goes n e) × MatchCores ks c e
kin_new_jump g (Code i m) n ks c d form e h =
    new_jump_by g.sees_pointer m i.op i.operands n ks c d (is_ending i.op i.operands (leads_always (row_exit (row_of i)) n e)) form e h
kin_new_jump g (Mark v m) n ks c d form e h = cc
kin_new_jump g (Phi p m) n ks c d form e h = cc

-- a target is in form wherever it leads
pub aimed_form : (op : Op) (os : List Operand) (n : ℕ) → has_form op os ≡ true → has_form op (aimed op n os) ≡ true
aimed_form (Branch op) (Use a ∷ Use b ∷ OfBlock t ∷ rest) n h = h
aimed_form PseudoBr (OfBlock t ∷ rest) n h = h
aimed_form (Registers op) os n h = h
aimed_form (Immediate op) os n h = h
aimed_form Lui os n h = h
aimed_form (Load op) os n h = h
aimed_form (Store op) os n h = h
aimed_form Copy os n h = h
aimed_form PseudoCall os n h = h
aimed_form PseudoRet os n h = h
aimed_form PseudoCallIndirect os n h = h
aimed_form PseudoTail os n h = h
aimed_form PseudoTailIndirect os n h = h
aimed_form NoReturnCall os n h = h
aimed_form NoReturnCallIndirect os n h = h
aimed_form _ _ n h = cc
