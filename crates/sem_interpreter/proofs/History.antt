-- Pairs and assignments, after one of them changes.
use Rattle.std.proofs.Common.{◌≡◌, ℕ, List, [], ◌∷◌, Option, Some, Bool, true, false, cond, ◌&&◌, nat_eq, refl, sym, ap, ◌∙◌, subst, inl, inr}
use Rattle.std.specs.Map.{lookup}
use Rattle.std.proofs.lemmas.Bool.{cases_eq, eq-eqb, ne_eqb, and_left, and_right}
use Rattle.rv64_instr.specs.declared.start.CallResult.{CallResult}
use Rattle.rv64_instr.specs.declared.place.Place.{Place}
use Rattle.mir_func.specs.declared.debug_substitution.DebugSubstitution.{DebugSubstitution}
use Rattle.mir_func.specs.declared.variable.VarId.{VarId}
use Rattle.mir_func.specs.declared.variable.MarkValue.{MarkValue}
use Rattle.mir_func.specs.declared.item.ItemKind.TheVariants.{Mark, Phi}
use Rattle.mir_func.specs.Parts.{Bytes}
use Rattle.sem_mir.specs.State.{Core, updated}
use Rattle.sem_mir.specs.Step.{mark_value, part_of, place_value}
use Rattle.mir_func.specs.Graph.{program_of}
use Rattle.mir_func.specs.Resolve.{resolve}
use Rattle.mir_substitution.specs.Index.{is_key}
use Rattle.sem_interpreter.specs.declared.machine.Outcome.TheVariants.{Falls}
use Rattle.sem_interpreter.specs.Assigned.{MarksHold}
use Rattle.sem_interpreter.specs.StandsFor.{Concrete, flat, PairsHold, Holds, DoesItem}

pub mark_does : (subs : List DebugSubstitution) (v : VarId) (m : MarkValue) (answer : Option CallResult) (old : Concrete)
    (fs : List ((ℕ × Option ℕ) × List (Option Bytes × Option ℕ))) (x : Option ℕ) →
    ((s : Core) → Holds old s → x ≡ part_of v (mark_value (program_of true [] (resolve subs)) m s)) →
    ((marks : List (VarId × Option ℕ)) → MarksHold old.assigned marks → MarksHold fs ((v, x) ∷ marks)) →
    DoesItem subs (Mark v m) answer Falls old (record old { assigned = fs })
mark_does subs v m answer old fs x is put = record {
  ends = λ s holds script.
      let value = part_of v (mark_value (program_of true [] (resolve subs)) m s) in (
        record s { marks = (v, value) ∷ s.marks },
        refl,
        record {
          machine = record {
            entry = holds.machine.entry;
            area = holds.machine.area;
            symbols = holds.machine.symbols;
            objects = holds.machine.objects;
            registers = holds.machine.registers;
            slots = holds.machine.slots;
            memory = holds.machine.memory;
          };
          pairs = holds.pairs;
          marks = subst (λ (y : Option ℕ). MarksHold fs ((v, y) ∷ s.marks)) (is s holds) (put s.marks holds.marks);
        },
      );
  stays = tt;
  leads = λ p. refl;
  pos = refl;
}

-- one pair changed
pub set_pair : ℕ → ℕ → Option ℕ → (ℕ → ℕ → Option ℕ) → ℕ → ℕ → Option ℕ
set_pair k o x f = updated k (updated o x (f k)) f

pub pairs_put : (es fs : List ((ℕ × ℕ) × Option ℕ)) (f : ℕ → ℕ → Option ℕ) (k o : ℕ) (x : Option ℕ) → PairsHold es f →
    ((q : ℕ × ℕ) → lookup (is_key q) fs ≡ cond (is_key (k, o) q) (Some x) (lookup (is_key q) es)) → PairsHold fs (updated k (updated o x (f k)) f)
pairs_put es fs f k o x holds put l p =
    elim (cases_eq l k) [
      | inl e ↦ (elim (cases_eq p o) [
        | inl d ↦
            let same : is_key (k, o) (l, p) ≡ true = (λ i. eq-eqb k l (sym e) i && eq-eqb o p (sym d) i) in
            ap (λ (b : Bool). cond b (updated o x (f k)) (f l) p) (eq-eqb l k e) ∙ ap (λ (b : Bool). cond b x (f k p)) (eq-eqb p o d)
            ∙ sym (ap flat (put (l, p) ∙ ap (λ (b : Bool). cond b (Some x) (lookup (is_key (l, p)) es)) same))
        | inr n ↦
            let other : is_key (k, o) (l, p) ≡ false = and_right (nat_eq k l) (nat_eq o p) (ne_eqb o p (λ d. n (sym d))) in
            ap (λ (b : Bool). cond b (updated o x (f k)) (f l) p) (eq-eqb l k e) ∙ ap (λ (b : Bool). cond b x (f k p)) (ne_eqb p o n)
            ∙ ap (λ (a : ℕ). f a p) (sym e) ∙ holds l p
            ∙ sym (ap flat (put (l, p) ∙ ap (λ (b : Bool). cond b (Some x) (lookup (is_key (l, p)) es)) other))
      ])
      | inr n ↦
          let other : is_key (k, o) (l, p) ≡ false = and_left (nat_eq k l) (nat_eq o p) (ne_eqb k l (λ d. n (sym d))) in
          ap (λ (b : Bool). cond b (updated o x (f k)) (f l) p) (ne_eqb l k n) ∙ holds l p
          ∙ sym (ap flat (put (l, p) ∙ ap (λ (b : Bool). cond b (Some x) (lookup (is_key (l, p)) es)) other))
    ]

pub phi_does : (subs : List DebugSubstitution) (p : Option Place) (k : ℕ) (answer : Option CallResult) (old : Concrete) (fs : List ((ℕ × ℕ) × Option ℕ))
    (x : Option ℕ) →
    ((s : Core) → Holds old s → x ≡ place_value p s) →
    ((q : ℕ × ℕ) → lookup (is_key q) fs ≡ cond (is_key (k, 0) q) (Some x) (lookup (is_key q) old.pairs)) →
    DoesItem subs (Phi p k) answer Falls old (record old { pairs = fs })
phi_does subs p k answer old fs x is put = record {
  ends = λ s holds script. (
    record s { pairs = updated k (updated 0 (place_value p s) (s.pairs k)) s.pairs },
    refl,
    record {
      machine = record {
        entry = holds.machine.entry;
        area = holds.machine.area;
        symbols = holds.machine.symbols;
        objects = holds.machine.objects;
        registers = holds.machine.registers;
        slots = holds.machine.slots;
        memory = holds.machine.memory;
      };
      pairs = subst (λ (y : Option ℕ). PairsHold fs (updated k (updated 0 y (s.pairs k)) s.pairs)) (is s holds)
          (pairs_put old.pairs fs s.pairs k 0 x holds.pairs put);
      marks = holds.marks;
    },
  );
  stays = tt;
  leads = λ p. refl;
  pos = refl;
}
