-- The implicit operands at the end of an instruction: they are read as they were printed.
use Rattle.std.proofs.Common.{◌≡◌, ◌<◌, Bool, false, true, not, leb, List, [], ◌∷◌, Some, map, refl, ap, arith}
use Rattle.std.specs.Prelude.{filter, All}
use Rattle.std.specs.List.{flat_map, list_all}
use Rattle.std.proofs.lemmas.Bool.{and_parts, ltb-true, leb-true}
use Rattle.std.proofs.lemmas.List.Elements.{All-head, All-tail}
use Rattle.rv64_instr.specs.declared.operand.Operand.{Operand}
use Rattle.rv64_instr.specs.declared.operand.Operand.TheVariants.{ImplicitDef, ImplicitUse, Outgoing, GlobalRegisters}
use Rattle.rv64_instr.specs.Form.{is_implicit, is_argument, is_result}
use Rattle.read_token.specs.declared.lexeme.Flag.TheVariants.{Implicit as ImplicitFlag, ImplicitDef as ImplicitDefFlag}
use Rattle.read_item.specs.Code.{before, used, placed}
use Rattle.mir_printer.specs.Printable.{as_slot}
use Rattle.mir_printer.specs.Spelling.{is_definition}
use Rattle.read_program.proofs.Operands.{IsLimitedIn}
use Rattle.readback_items.specs.Forms.{operand_form, set_register}
use Rattle.readback_items.proofs.Registers.{number_is}

abbrev pub IsTail : Operand → Type 0
IsTail (ImplicitDef r) = r < 32
IsTail (ImplicitUse r) = r < 32
IsTail _ = ⊥

pub record Tail (rest : List Operand) : Type 0 where
  pub sets : flat_map set_register rest ≡ []
  pub uses : filter (λ o. not (is_definition o)) rest ≡ rest
  pub slots : map as_slot rest ≡ rest
  pub placed : placed [] (map operand_form rest) ≡ Some rest

no_tail : Tail []
unfolding placed
no_tail = record { sets = refl; uses = refl; slots = refl; placed = refl }

tail_more : (o : Operand) (rest : List Operand) → IsTail o → Tail rest → Tail (o ∷ rest)
unfolding placed
tail_more (ImplicitDef r) rest is t = record {
  sets = t.sets;
  uses = ap (λ (os : List Operand). ImplicitDef r ∷ os) t.uses;
  slots = ap (λ (os : List Operand). ImplicitDef r ∷ os) t.slots;
  placed = λ i. before (used ImplicitDefFlag (number_is ImplicitDefFlag r is i)) (t.placed i);
}
tail_more (ImplicitUse r) rest is t = record {
  sets = t.sets;
  uses = ap (λ (os : List Operand). ImplicitUse r ∷ os) t.uses;
  slots = ap (λ (os : List Operand). ImplicitUse r ∷ os) t.slots;
  placed = λ i. before (used ImplicitFlag (number_is ImplicitFlag r is i)) (t.placed i);
}
tail_more o rest is t = absurd is

tails : (p : Operand → Bool) → ((o : Operand) → p o ≡ true → IsTail o) → (rest : List Operand) → list_all p rest ≡ true → Tail rest
tails p each [] e = no_tail
tails p each (o ∷ os) e = let parts = and_parts (p o) (list_all p os) e in tail_more o os (each o parts.0) (tails p each os parts.1)

implicit_tail : (o : Operand) → is_implicit o ≡ true → IsTail o
implicit_tail (ImplicitDef r) e = ltb-true r 32 e
implicit_tail (ImplicitUse r) e = ltb-true r 32 e
implicit_tail o e = absurd cc

argument_tail : (o : Operand) → is_argument o ≡ true → IsLimitedIn false o → IsTail o
argument_tail (ImplicitDef r) e small = small
argument_tail (ImplicitUse r) e small = small
argument_tail (Outgoing n) e small = absurd small
argument_tail GlobalRegisters e small = absurd small
argument_tail o e small = absurd cc

result_tail : (o : Operand) → is_result o ≡ true → IsLimitedIn false o → IsTail o
result_tail (ImplicitUse r) e small = let low = leb-true r 17 (and_parts (leb 10 r) (leb r 17) e).1 in omega (arith, low)
result_tail GlobalRegisters e small = absurd small
result_tail o e small = absurd cc

pub implicits : (rest : List Operand) → list_all is_implicit rest ≡ true → Tail rest
implicits = tails is_implicit implicit_tail

pub arguments : (rest : List Operand) → list_all is_argument rest ≡ true → All (IsLimitedIn false) rest → Tail rest
arguments [] e small = no_tail
arguments (o ∷ os) e small =
    let parts = and_parts (is_argument o) (list_all is_argument os) e in
    tail_more o os (argument_tail o parts.0 (All-head (IsLimitedIn false) o os small)) (arguments os parts.1 (All-tail (IsLimitedIn false) o os small))

pub results : (rest : List Operand) → list_all is_result rest ≡ true → All (IsLimitedIn false) rest → Tail rest
results [] e small = no_tail
results (o ∷ os) e small =
    let parts = and_parts (is_result o) (list_all is_result os) e in
    tail_more o os (result_tail o parts.0 (All-head (IsLimitedIn false) o os small)) (results os parts.1 (All-tail (IsLimitedIn false) o os small))
