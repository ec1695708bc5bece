use Rattle.std.proofs.Common.{◌≡◌, ℕ, List, Option, Some, None, sym, ap, ◌∙◌}
use Rattle.std.specs.Prelude.{IfSome}
use Rattle.rv64_instr.specs.declared.op.Op.{Op}
use Rattle.rv64_instr.specs.Mnemonic.{mnemonic_of, Names}
use Rattle.rv64_instr.proofs.Names.{mnemonic_of-injective}
use Rattle.rv64_instr.proofs.op.Op.from_mnemonic.Goals as goal

named_so : (text : List ℕ) (o : Option Op) → Names text o → IfSome o (λ op. text ≡ mnemonic_of op)
named_so text None h = tt
named_so text (Some op) h = h

no_other : (text : List ℕ) (o : Option Op) → Names text o → (op : Op) → text ≡ mnemonic_of op → o ≡ Some op
no_other text None h op e = absurd (h op e)
no_other text (Some a) h op e = ap (λ (x : Op). Some x) (mnemonic_of-injective a op (sym h ∙ e))

pub returns-clause-found : goal.returns-clause-found
returns-clause-found c = named_so c.args.text.now c.named.result c.named.ensures

pub returns-clause-only : goal.returns-clause-only
returns-clause-only c = no_other c.args.text.now c.named.result c.named.ensures
