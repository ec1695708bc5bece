use Rattle.std.proofs.Common.{rules, ◌≡◌, ◌++◌, ℕ, List, Bool, true, ap, sym, ◌∙◌, append_assoc, codes}
use Rattle.mir_printer.specs.Spelling.{kind_text, location_text, is_volatile_kind, with_memory_operand}
use Rattle.mir_printer.proofs.item.push_item.Goals as goal

-- a memory operand comes behind all else
pub returns-in_ok-push_str-clause-ok : goal.returns-in_ok-push_str-clause-ok
returns-in_ok-push_str-clause-ok c =
    let text = c.args.text.now in
    let plain = kind_text c.args.item.now.kind ++ location_text c.args.item.now.loc in
    let operand = codes " :: (volatile load)" in
    let volatile : is_volatile_kind c.args.item.now.kind ≡ true = search rules in
    let before : c.push_plain.new.text ≡ text ++ plain = search rules in
    let behind : c.push_str.new.text ≡ c.push_plain.new.text ++ operand = c.in_ok-push_str.ensures.ok in
    behind ∙ (ap (λ (t : List ℕ). t ++ operand) before
    ∙ (append_assoc text plain operand ∙ ap (λ (b : Bool). text ++ with_memory_operand b plain) (sym volatile)))
