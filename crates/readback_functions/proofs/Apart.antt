-- The numbers of slots and of objects stand once, as those of the entries do.
use Rattle.std.proofs.Common.{◌≡◌, ℕ, zero, suc, ◌+◌, Bool, true, false, cond, ◌||◌, eqb, List, [], ◌∷◌, ◌++◌, map}
use Rattle.std.proofs.Common.{refl, sym, ap, subst, ◌∙◌, arith, append_assoc, append-nil}
use Rattle.std.proofs.lemmas.Bool.{or_parts, eq-eqb, ne_eqb, eqb-false, false≢true}
use Rattle.std.proofs.lemmas.List.{map-append}
use Rattle.mir_func.specs.declared.object.Object.{Object}
use Rattle.mir_func.specs.Sound.{AreApart}
use Rattle.read_declarations.specs.declared.stack.StackEntry.{StackEntry}
use Rattle.read_body.specs.declared.stack_entry_kind.ObjectLayout.{ObjectLayout}
use Rattle.mir_func.specs.Objects.{next_end}
use Rattle.read_body.specs.StackEntryKind.{is_stack_object, with_slot, slots_behind, laid_at, with_object, objects_behind}
use Rattle.read_body.specs.FirstUseOrder.{is_met}
use Rattle.read_program.proofs.Lists.{found, met_at}

-- no number stands twice
abbrev pub Once : List ℕ → Type 0
Once [] = Unit {0}
Once (n ∷ ns) = (is_met n ns ≡ false) × Once ns

none_met : (n : ℕ) (ns : List ℕ) → (is_met n ns ≡ true → ⊥) → is_met n ns ≡ false
none_met n ns none = by (is_met n ns) refl where
  by : (b : Bool) → is_met n ns ≡ b → b ≡ false
  by true e = absurd (none e)
  by false e = refl

pub once_if_apart : (ns : List ℕ) → AreApart ns → Once ns
once_if_apart [] apart = tt
once_if_apart (n ∷ ns) apart = (
  none_met n ns (λ e. let at = found ns n e in let same : zero ≡ suc at.0 = apart zero (suc at.0) n refl at.1 in omega (arith, same)),
  once_if_apart ns (λ i j m e f. let same : suc i ≡ suc j = apart (suc i) (suc j) m e f in omega (arith, same)),
)

pub apart_if_once : (ns : List ℕ) → Once ns → AreApart ns
apart_if_once [] once i j m e f = absurd cc
apart_if_once (n ∷ ns) once zero zero m e f = refl
apart_if_once (n ∷ ns) once zero (suc j) m e f =
    absurd (false≢true (sym once.0 ∙ (ap (λ (k : ℕ). is_met k ns) (let same : n ≡ m = cc in same) ∙ met_at ns j m f)))
apart_if_once (n ∷ ns) once (suc i) zero m e f =
    absurd (false≢true (sym once.0 ∙ (ap (λ (k : ℕ). is_met k ns) (let same : n ≡ m = cc in same) ∙ met_at ns i m e)))
apart_if_once (n ∷ ns) once (suc i) (suc j) m e f = ap suc (apart_if_once ns once.1 i j m e f)

turned : (a b : ℕ) → eqb a b ≡ false → eqb b a ≡ false
turned a b other = ne_eqb b a (λ e. eqb-false a b other (sym e))

or_false : (a b : Bool) → a ≡ false → b ≡ false → (a || b) ≡ false
or_false true b e f = absurd cc
or_false false b e f = f

-- another number between others
pub met_between : (n m : ℕ) (xs ys : List ℕ) → eqb n m ≡ false → is_met n (xs ++ ys) ≡ false → is_met n (xs ++ m ∷ ys) ≡ false
met_between n m [] ys other none = or_false (eqb n m) (is_met n ys) other none
met_between n m (x ∷ xs) ys other none =
    let parts = or_parts (eqb n x) (is_met n (xs ++ ys)) none in
    or_false (eqb n x) (is_met n (xs ++ m ∷ ys)) parts.0 (met_between n m xs ys other parts.1)

pub once_between : (m : ℕ) (xs ys : List ℕ) → is_met m (xs ++ ys) ≡ false → Once (xs ++ ys) → Once (xs ++ m ∷ ys)
once_between m [] ys none once = (none, once)
once_between m (x ∷ xs) ys none once =
    let parts = or_parts (eqb m x) (is_met m (xs ++ ys)) none in
    (met_between x m xs ys (turned m x parts.0) once.0, once_between m xs ys parts.1 once.1)

abbrev pub numbers : List StackEntry → List ℕ
numbers es = map (λ (e : StackEntry). e.id) es

abbrev pub object_numbers : List Object → List ℕ
object_numbers os = map (λ (o : Object). o.id) os

-- no entry has one of these numbers
abbrev AreFree : List ℕ → List StackEntry → Type 0
AreFree ns es = (n : ℕ) → is_met n (numbers es) ≡ true → is_met n ns ≡ false

module _ (named : List ℕ) where
  pub once_behind : (block : ℕ) (ss : List ℕ) (laid : ObjectLayout) (es : List StackEntry) → Once (ss ++ object_numbers laid.objects) →
      AreFree (ss ++ object_numbers laid.objects) es → Once (numbers es) →
      Once (slots_behind named ss es ++ object_numbers (objects_behind named block laid es).objects)
  unfolding slots_behind objects_behind
  once_behind block ss laid [] once free entries = once
  once_behind block ss laid (e ∷ es) once free entries =
      by (is_stack_object named e) (once_behind block (with_slot named ss e) (with_object named block laid e) es) where
        new : is_met e.id (ss ++ object_numbers laid.objects) ≡ false
        new = free e.id (ap (λ (b : Bool). b || is_met e.id (numbers es)) (eq-eqb e.id e.id refl))

        other : (n : ℕ) → is_met n (numbers es) ≡ true → eqb n e.id ≡ false
        other n is = ne_eqb n e.id (λ same. false≢true (sym entries.0 ∙ (ap (λ (k : ℕ). is_met k (numbers es)) (sym same) ∙ is)))

        later : (n : ℕ) → is_met n (numbers es) ≡ true → is_met n (ss ++ object_numbers laid.objects) ≡ false
        later n is = free n (or_later (eqb n e.id) is) where
          or_later : (b : Bool) → is_met n (numbers es) ≡ true → (b || is_met n (numbers es)) ≡ true
          or_later true f = refl
          or_later false f = f

        more : ObjectLayout
        more = record {
          objects = laid.objects ++ laid_at block laid.end e ∷ [];
          end = next_end laid.end ((laid_at block laid.end e).offset + e.size) e.local_offset;
        }

        pushed : ss ++ object_numbers more.objects ≡ (ss ++ object_numbers laid.objects) ++ e.id ∷ []
        pushed = ap (λ (l : List ℕ). ss ++ l) (map-append (λ (o : Object). o.id) laid.objects (laid_at block laid.end e ∷ []))
            ∙ sym (append_assoc ss (object_numbers laid.objects) (e.id ∷ []))

        put : (ss ++ e.id ∷ []) ++ object_numbers laid.objects ≡ ss ++ e.id ∷ object_numbers laid.objects
        put = append_assoc ss (e.id ∷ []) (object_numbers laid.objects)

        by : (b : Bool) →
            (Once (cond b ss (ss ++ e.id ∷ []) ++ object_numbers (cond b more laid).objects) →
            AreFree (cond b ss (ss ++ e.id ∷ []) ++ object_numbers (cond b more laid).objects) es → Once (numbers es) →
            Once (slots_behind named (cond b ss (ss ++ e.id ∷ [])) es ++ object_numbers (objects_behind named block (cond b more laid) es).objects)) →
            Once (slots_behind named (cond b ss (ss ++ e.id ∷ [])) es ++ object_numbers (objects_behind named block (cond b more laid) es).objects)
        by true rest = rest
            (subst Once (sym pushed) (once_between e.id (ss ++ object_numbers laid.objects) []
            (ap (is_met e.id) (append-nil (ss ++ object_numbers laid.objects)) ∙ new) (subst Once (sym (append-nil (ss ++ object_numbers laid.objects))) once)))
            (λ n is. ap (is_met n) pushed ∙ met_between n e.id (ss ++ object_numbers laid.objects) [] (other n is)
            (ap (is_met n) (append-nil (ss ++ object_numbers laid.objects)) ∙ later n is)) entries.1
        by false rest = rest
            (subst Once (sym put) (once_between e.id ss (object_numbers laid.objects) new once))
            (λ n is. ap (is_met n) put ∙ met_between n e.id ss (object_numbers laid.objects) (other n is) (later n is)) entries.1
