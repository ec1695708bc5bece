-- What a body knows behind an item that is read.
use Rattle.std.proofs.Common.{◌≡◌, ℕ, Bool, true, false, eqb, ◌||◌, List, [], ◌∷◌, ◌++◌, Option, Some, None, refl, sym, ap, ◌∙◌, inl, inr}
use Rattle.std.specs.Option.{option_map_or}
use Rattle.std.proofs.lemmas.Bool.{cases_Bool, cond-true, cond-false, eqb-true}
use Rattle.std.proofs.lemmas.List.Folds.{list_any-append}
use Rattle.mir_func.specs.declared.item.ItemKind.{ItemKind}
use Rattle.mir_func.specs.declared.item.ItemKind.TheVariants.{Code, Mark, Phi}
use Rattle.mir_func.specs.declared.location.Loc.{Loc}
use Rattle.read_body.specs.declared.body.Body.{Body}
use Rattle.read_body.specs.Body.{constant_of, object_named, with_number, with_constant, with_object, with_variable, with_item}
use Rattle.read_body.specs.FirstUseOrder.{is_met, met}

-- what is met in an item, by its kind, its constant and its object
pub record Facts (body next : Body) (kind : ItemKind) (c o : Option ℕ) : Type 0 where
  pub codes : next.codes ≡ (with_number body kind).codes
  pub numbers : next.numbers ≡ (with_number body kind).numbers
  pub constants : next.constants ≡ (with_constant body c).constants
  pub objects : next.objects ≡ (with_object body o).objects
  pub variables : next.variables ≡ (with_variable body kind).variables

facts_by : (body : Body) (kind : ItemKind) (c o : Option ℕ) →
    Facts body (with_variable (with_object (with_constant (with_number body kind) c) o) kind) kind c o
facts_by body (Code i None) None None = record { codes = refl; numbers = refl; constants = refl; objects = refl; variables = refl }
facts_by body (Code i None) None (Some o) = record { codes = refl; numbers = refl; constants = refl; objects = refl; variables = refl }
facts_by body (Code i None) (Some c) None = record { codes = refl; numbers = refl; constants = refl; objects = refl; variables = refl }
facts_by body (Code i None) (Some c) (Some o) = record { codes = refl; numbers = refl; constants = refl; objects = refl; variables = refl }
facts_by body (Code i (Some k)) None None = record { codes = refl; numbers = refl; constants = refl; objects = refl; variables = refl }
facts_by body (Code i (Some k)) None (Some o) = record { codes = refl; numbers = refl; constants = refl; objects = refl; variables = refl }
facts_by body (Code i (Some k)) (Some c) None = record { codes = refl; numbers = refl; constants = refl; objects = refl; variables = refl }
facts_by body (Code i (Some k)) (Some c) (Some o) = record { codes = refl; numbers = refl; constants = refl; objects = refl; variables = refl }
facts_by body (Mark v m) None None = record { codes = refl; numbers = refl; constants = refl; objects = refl; variables = refl }
facts_by body (Mark v m) None (Some o) = record { codes = refl; numbers = refl; constants = refl; objects = refl; variables = refl }
facts_by body (Mark v m) (Some c) None = record { codes = refl; numbers = refl; constants = refl; objects = refl; variables = refl }
facts_by body (Mark v m) (Some c) (Some o) = record { codes = refl; numbers = refl; constants = refl; objects = refl; variables = refl }
facts_by body (Phi p k) None None = record { codes = refl; numbers = refl; constants = refl; objects = refl; variables = refl }
facts_by body (Phi p k) None (Some o) = record { codes = refl; numbers = refl; constants = refl; objects = refl; variables = refl }
facts_by body (Phi p k) (Some c) None = record { codes = refl; numbers = refl; constants = refl; objects = refl; variables = refl }
facts_by body (Phi p k) (Some c) (Some o) = record { codes = refl; numbers = refl; constants = refl; objects = refl; variables = refl }

pub item_facts : (body : Body) (kind : ItemKind) (loc : Loc) (entries : List ℕ) →
    Facts body (with_item body kind loc entries) kind (constant_of kind) (object_named kind)
item_facts body kind loc entries =
    let f = facts_by body kind (constant_of kind) (object_named kind) in
    record { codes = f.codes; numbers = f.numbers; constants = f.constants; objects = f.objects; variables = f.variables }

-- which numbers are met behind one more
pub met_is : (n m : ℕ) (ns : List ℕ) → is_met n (met m ns) ≡ (is_met n ns || eqb n m)
met_is n m ns = elim (cases_Bool (is_met m ns)) [
  | inl there ↦ ap (is_met n) (cond-true (is_met m ns) ns (ns ++ m ∷ []) there) ∙ stays there
  | inr none ↦ ap (is_met n) (cond-false (is_met m ns) ns (ns ++ m ∷ []) none) ∙ list_any-append (λ (k : ℕ). eqb n k) ns (m ∷ [])
      ∙ ap (λ (b : Bool). is_met n ns || b) (or_end (eqb n m))
] where
  or_end : (b : Bool) → (b || false) ≡ b
  or_end true = refl
  or_end false = refl

  at : (b : Bool) → eqb n m ≡ b → is_met m ns ≡ true → is_met n ns ≡ (is_met n ns || b)
  at true same there = let is : is_met n ns ≡ true = ap (λ (k : ℕ). is_met k ns) (eqb-true n m same) ∙ there in
      is ∙ sym (ap (λ (b : Bool). b || true) is)
  at false same there = sym (or_end (is_met n ns))

  stays : is_met m ns ≡ true → is_met n ns ≡ (is_met n ns || eqb n m)
  stays there = at (eqb n m) refl there

-- which objects are met
pub objects_behind : (body : Body) (o : Option ℕ) (n : ℕ) →
    is_met n (with_object body o).objects ≡ (is_met n body.objects || option_map_or (λ m. eqb n m) o false)
objects_behind body None n = end (is_met n body.objects) where
  end : (b : Bool) → b ≡ (b || false)
  end true = refl
  end false = refl
objects_behind body (Some m) n = met_is n m body.objects
