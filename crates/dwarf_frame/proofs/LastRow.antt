-- The rules of an address: those that were in force there when the rows were made.
use Rattle.std.specs.Prelude.{Contains}
use Rattle.std.specs.Option.{option_map}
use Rattle.std.proofs.Common.{◌≡◌, ℕ, zero, suc, ◌+◌, ◌<◌, ◌≤◌, cond, leb, ltb, Option, Some, None, List, [], ◌∷◌, ◌++◌, length, get_or, take, set}
use Rattle.std.proofs.Common.{ap, subst, sym, ◌∙◌, refl, arith}
use Rattle.std.proofs.lemmas.Bool.{le-leb, lt-leb, lt-ltb, le-ltb, and_from, and_right}
use Rattle.std.proofs.lemmas.List.{take_all, take_more, take_more_set, length-take}
use Rattle.dwarf_frame.specs.declared.table.RegisterRule.{RegisterRule}
use Rattle.dwarf_frame.specs.declared.table.FrameRow.{FrameRow}
use Rattle.dwarf_frame.specs.declared.table.Row.{Row}
use Rattle.dwarf_frame.specs.declared.table.FrameDescription.{FrameDescription}
use Rattle.dwarf_frame.specs.Table.{initial}
use Rattle.dwarf_frame.specs.FirstFault.{IsSection}
use Rattle.dwarf_frame.specs.Rows.{rules_after, rules_in, rule_of, rules_from, unwinding, RulesAt, Changes, NoEntry, Same, Other, AscendFrom, AreApart}

-- all rows are later than an address
abbrev AreLater : ℕ → List Row → Type 0
AreLater address [] = Unit {0}
AreLater address (r ∷ rows) = (address < r.address) × AreLater address rows

later_rows : {before : FrameRow} {entries rows : List Row} → (from address : ℕ) → Changes before entries rows → AscendFrom from entries → address < from
    → AreLater address rows
later_rows from address NoEntry ascend early = tt
later_rows from address (Same {e = e} same changes) ascend early = later_rows (e.address + 1) address changes ascend.1 (omega (arith, ascend.0))
later_rows from address (Other {e = e} apart changes) ascend early =
    (omega (arith, ascend.0), later_rows (e.address + 1) address changes ascend.1 (omega (arith, ascend.0)))

no_later : (before : FrameRow) (rows : List Row) (address : ℕ) → AreLater address rows → rules_after before rows address ≡ before
no_later before [] address later = refl
no_later before (r ∷ rows) address later =
    ap (λ b. rules_after (cond b r.rules before) rows address) (lt-leb r.address address later.0) ∙ no_later before rows address later.1

at_or_after : (from : ℕ) (entries : List Row) (k : ℕ) (e : Row) → AscendFrom from entries → k < length entries → get_or entries k e ≡ e → from ≤ e.address
at_or_after from [] k e ascend inside at = absurd (omega arith)
at_or_after from (f ∷ entries) zero e ascend inside at = subst (λ (x : Row). from ≤ x.address) at ascend.0
at_or_after from (f ∷ entries) (suc k) e ascend inside at =
    let later : f.address + 1 ≤ e.address = at_or_after (f.address + 1) entries k e ascend.1 (omega arith) at in omega (arith, later, ascend.0)

-- the rules of an entry's address are the entry's
pub rules_of : {before : FrameRow} {entries rows : List Row} → (from k : ℕ) (e : Row) → Changes before entries rows → AscendFrom from entries
    → k < length entries → get_or entries k e ≡ e → rules_after before rows e.address ≡ e.rules
rules_of from k e NoEntry ascend inside at = absurd (omega arith)
rules_of {before} {entries} {rows} from zero e (Same {e = f} same changes) ascend inside at =
    subst (λ (x : Row). rules_after before rows x.address ≡ x.rules) at
    (no_later before rows f.address (later_rows (f.address + 1) f.address changes ascend.1 (omega arith)) ∙ sym same)
rules_of from (suc k) e (Same {e = f} same changes) ascend inside at = rules_of (f.address + 1) k e changes ascend.1 (omega arith) at
rules_of {before} from zero e (Other {e = f} {rows = rows} apart changes) ascend inside at =
    subst (λ (x : Row). rules_after before (f ∷ rows) x.address ≡ x.rules) at
    (ap (λ b. rules_after (cond b f.rules before) rows f.address) (le-leb f.address f.address (omega arith))
    ∙ no_later f.rules rows f.address (later_rows (f.address + 1) f.address changes ascend.1 (omega arith)))
rules_of {before} from (suc k) e (Other {e = f} {entries = entries} {rows = rows} apart changes) ascend inside at =
    let later : f.address + 1 ≤ e.address = at_or_after (f.address + 1) entries k e ascend.1 (omega arith) at in
    ap (λ b. rules_after (cond b f.rules before) rows e.address) (le-leb f.address e.address (omega (arith, later)))
    ∙ rules_of (f.address + 1) k e changes ascend.1 (omega arith) at

starts_after : (from : ℕ) (functions : List FrameDescription) (k : ℕ) (f : FrameDescription) → AreApart from functions → k < length functions
    → get_or functions k f ≡ f → from ≤ f.start
starts_after from [] k f apart inside at = absurd (omega arith)
starts_after from (g ∷ functions) zero f apart inside at = subst (λ (x : FrameDescription). from ≤ x.start) at apart.0
starts_after from (g ∷ functions) (suc k) f apart inside at =
    let later : g.start + g.size ≤ f.start = starts_after (g.start + g.size) functions k f apart.1 (omega arith) at in
    omega (arith, later, apart.0)

-- the rules of an address of a function are by its rows
rules_by : (from : ℕ) (functions : List FrameDescription) (k : ℕ) (f : FrameDescription) (address : ℕ) → AreApart from functions → k < length functions
    → get_or functions k f ≡ f → f.start ≤ address → address < f.start + f.size
    → rules_in functions address ≡ Some (rules_after (initial f.start).rules f.rows address)
rules_by from [] k f address apart inside at begins ends = absurd (omega arith)
rules_by from (g ∷ functions) zero f address apart inside at begins ends =
    subst (λ (x : FrameDescription). rules_in (x ∷ functions) address ≡ Some (rules_after (initial f.start).rules f.rows address)) (sym at)
    (ap (λ b. cond b (Some (rules_after (initial f.start).rules f.rows address)) (rules_in functions address))
    (and_from (leb f.start address) (ltb address (f.start + f.size)) (le-leb f.start address begins) (lt-ltb address (f.start + f.size) ends)))
rules_by from (g ∷ functions) (suc k) f address apart inside at begins ends =
    let later : g.start + g.size ≤ f.start = starts_after (g.start + g.size) functions k f apart.1 (omega arith) at in
    ap (λ b. cond b (Some (rules_after (initial g.start).rules g.rows address)) (rules_in functions address))
    (and_right (leb g.start address) (ltb address (g.start + g.size)) (le-ltb address (g.start + g.size) (omega (arith, later, begins))))
    ∙ rules_by (g.start + g.size) functions k f address apart.1 (omega arith) at begins ends

-- and so are those of the section
pub entry_rules : (undefined bytes : List ℕ) (functions : List FrameDescription) (f : FrameDescription) (entries : List Row) (e : Row)
    → IsSection undefined bytes functions → AreApart 0 functions → Contains functions f → Changes (initial f.start).rules entries f.rows
    → AscendFrom f.start entries → Contains entries e → e.address < f.start + f.size → RulesAt undefined bytes e.address (unwinding undefined e.rules)
entry_rules undefined bytes functions f entries e is apart listed changes ascend entered ends =
    let begins : f.start ≤ e.address = at_or_after f.start entries entered.0 e ascend entered.1 entered.2 in
    record {
      functions = functions;
      section = is;
      found =
          ap (option_map (unwinding undefined))
          (rules_by 0 functions listed.0 f e.address apart listed.1 listed.2 begins ends
          ∙ ap Some (rules_of f.start entered.0 e changes ascend entered.1 entered.2));
    }

-- ---- the rules that a row stands for, one register after the other

rules_push : (undefined : List ℕ) (register : ℕ) (saved : List (Option ℕ)) (o : Option ℕ)
    → rules_from undefined register (saved ++ o ∷ []) ≡ rules_from undefined register saved ++ rule_of undefined (register + length saved) o ∷ []
rules_push undefined register [] o =
    let same : register ≡ register + 0 = omega arith in ap (λ n. rule_of undefined n o ∷ []) same
rules_push undefined register (x ∷ saved) o =
    let next : suc register + length saved ≡ register + suc (length saved) = omega arith in
    ap (λ rs. rule_of undefined register x ∷ rs)
    (rules_push undefined (suc register) saved o
    ∙ ap (λ n. rules_from undefined (suc register) saved ++ rule_of undefined n o ∷ []) next)

pub rules_more : (undefined : List ℕ) (registers : List RegisterRule) (saved : List (Option ℕ)) (i : ℕ) (rule : RegisterRule) → i < length registers
    → i < length saved → take i registers ≡ rules_from undefined 0 (take i saved) → rule ≡ rule_of undefined i (get_or saved i None)
    → take (i + 1) (set registers i rule) ≡ rules_from undefined 0 (take (i + 1) saved)
rules_more undefined registers saved i rule inside among so_far is =
    let count : i ≡ 0 + length (take i saved) = omega (arith, length-take i saved, among) in
    take_more_set registers i rule inside ∙ ap (λ xs. xs ++ rule ∷ []) so_far
    ∙ ap (λ r. rules_from undefined 0 (take i saved) ++ r ∷ []) is
    ∙ ap (λ n. rules_from undefined 0 (take i saved) ++ rule_of undefined n (get_or saved i None) ∷ []) count
    ∙ sym (rules_push undefined 0 (take i saved) (get_or saved i None))
    ∙ ap (rules_from undefined 0) (sym (take_more saved i None among))

pub rules_done : (undefined : List ℕ) (registers : List RegisterRule) (saved : List (Option ℕ)) (i : ℕ) → length registers ≤ i → length saved ≤ i
    → take i registers ≡ rules_from undefined 0 (take i saved) → registers ≡ rules_from undefined 0 saved
rules_done undefined registers saved i past all so_far =
    sym (take_all i registers past) ∙ so_far ∙ ap (rules_from undefined 0) (take_all i saved all)
