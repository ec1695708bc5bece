use Rattle.std.proofs.Common.{◌≡◌, ℕ, List, Option, Some, None, Bool, true, false, cond, codes, sym, subst, ◌∙◌, refl}
use Rattle.std.specs.Str.{bytes_eq}
use Rattle.std.proofs.lemmas.Slice.Eq.{bytes_eq-Decides}
use Rattle.rv64_instr.specs.declared.op.Op.{Op}
use Rattle.rv64_instr.specs.declared.op.Op.TheVariants.{PseudoCallIndirect, PseudoTail, PseudoTailIndirect, NoReturnCall, NoReturnCallIndirect}
use Rattle.rv64_instr.specs.Mnemonic.{NamesElsewhere}
use Rattle.rv64_instr.specs.steps.Names.{NamesByValue, callee_named}
use Rattle.rv64_instr.proofs.op.named_elsewhere.Goals as goal

apart : true ≡ false → ⊥
apart e = let f : ⊥ = cc in f

-- what holds of either opcode, where the text is this and where it isn't, holds of the one that is chosen
chosen : (text word : List ℕ) (P : Option Op → Type 0) (a b : Option Op) → (text ≡ word → P a) → ((text ≡ word → ⊥) → P b) →
    P (cond (bytes_eq text word) a b)
chosen text word P a b is isnt = by_test (bytes_eq text word) refl where
  by_test : (t : Bool) → bytes_eq text word ≡ t → P (cond t a b)
  by_test true e = is ((bytes_eq-Decides text word).0 e)
  by_test false e = isnt (λ same. apart (sym ((bytes_eq-Decides text word).1 same) ∙ e))

by_callee : (text : List ℕ) → NamesByValue text None → NamesElsewhere text (callee_named text)
by_callee text v =
    chosen text (codes "PseudoCALLIndirect") (NamesElsewhere text) (Some PseudoCallIndirect) _ (λ is. is)
    (λ no1. chosen text (codes "PseudoTAIL") (NamesElsewhere text) (Some PseudoTail) _ (λ is. is)
    (λ no2. chosen text (codes "PseudoTAILIndirect") (NamesElsewhere text) (Some PseudoTailIndirect) _ (λ is. is)
    (λ no3. chosen text (codes "noreturn PseudoCALL") (NamesElsewhere text) (Some NoReturnCall) _ (λ is. is)
    (λ no4. chosen text (codes "noreturn PseudoCALLIndirect") (NamesElsewhere text) (Some NoReturnCallIndirect) None (λ is. is)
    (λ no5. (v.0, v.1, v.2, v.3, v.4, v.5, v.6, no1, no2, no3, no4, no5))))))

pub returns-in-None : goal.returns-in-None
returns-in-None c =
    subst (NamesElsewhere c.args.text.now) (sym c.named_by_callee.ensures) (by_callee c.args.text.now c.in-None.ensures)
