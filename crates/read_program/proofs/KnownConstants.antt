-- Code of the language that isn't linked names no constant of the pool.
use Rattle.std.proofs.Common.{◌≡◌, ℕ, Bool, true, false, List, [], ◌∷◌, All, Ok, refl}
use Rattle.std.specs.List.{list_all}
use Rattle.std.proofs.lemmas.Bool.{and_from}
use Rattle.std.proofs.lemmas.List.Elements.{All-head, All-tail, All-weaker}
use Rattle.rv64_instr.specs.declared.operand.Operand.{Operand}
use Rattle.rv64_instr.specs.declared.operand.Operand.TheVariants.{Part}
use Rattle.mir_func.specs.declared.block.Block.{Block}
use Rattle.mir_func.specs.declared.item.ItemKind.{ItemKind}
use Rattle.mir_func.specs.declared.item.ItemKind.TheVariants.{Code, Mark, Phi}
use Rattle.read_metadata.specs.Maps.{Maps}
use Rattle.read_lexer.specs.declared.line.Line.{Line}
use Rattle.read_body.specs.declared.body.Body.{Body}
use Rattle.read_body.specs.Body.{blocks_of}
use Rattle.read_program.specs.BodyLines.{body_of}
use Rattle.read_program.specs.Limited.{IsOperandOf, IsOfLanguage}
use Rattle.read_program.specs.Pool.{is_operand_known, is_kind_known, is_item_known, are_known}
use Rattle.read_program.proofs.Bodies.{IsReadBlock}
use Rattle.read_program.proofs.Comes.{EndsFromLine, body_reads}
use Rattle.read_program.proofs.Keeps.{keeps_item}

holds : {X : Type 0} (p : X → Bool) (xs : List X) → All (λ x. p x ≡ true) xs → list_all p xs ≡ true
holds p [] all = refl
holds p (x ∷ xs) all =
    and_from (p x) (list_all p xs) (All-head (λ y. p y ≡ true) x xs all) (holds p xs (All-tail (λ y. p y ≡ true) x xs all))

plain_operand : (ids : List ℕ) (o : Operand) → IsOperandOf false o → is_operand_known ids o ≡ true
plain_operand ids (Part half y) is = absurd cc
plain_operand ids _ is = refl

plain_kind : (ids : List ℕ) (kind : ItemKind) → IsOfLanguage false kind → is_kind_known ids kind ≡ true
plain_kind ids (Code i k) is =
    holds (is_operand_known ids) i.operands
    (All-weaker (IsOperandOf false) (λ o. is_operand_known ids o ≡ true) (plain_operand ids) i.operands is.0)
plain_kind ids (Mark v m) is = refl
plain_kind ids (Phi p k) is = refl

pub plain_known : (meta : Maps) (lines : List Line) (body : Body) → body_of false meta lines ≡ Ok body → (ids : List ℕ) →
    are_known ids (blocks_of body) ≡ true
plain_known meta lines body read ids =
    let is = body_reads false meta lines body read in
    holds (λ (b : Block). list_all (is_item_known ids) b.items) (blocks_of body)
    (All-weaker (IsReadBlock (EndsFromLine false meta body)) (λ (b : Block). list_all (is_item_known ids) b.items ≡ true)
    (λ b r. holds (is_item_known ids) b.items (All-weaker (λ i. EndsFromLine false meta body i.kind i.loc) (λ i. is_item_known ids i ≡ true)
    (λ i from. plain_kind ids i.kind (keeps_item false meta body i.kind i.loc from).item.language) b.items r.each)) (blocks_of body) is.blocks)
