-- Words tell their option and its value.
use Rattle.std.proofs.Common.{◌≡◌, ◌↔◌, ℕ, ◌<◌, ◌^◌, List, ◌++◌, codes, get_or, drop, Option, Some, None, refl, sym, ap, ◌∙◌, subst, arith}
use Rattle.std.specs.List.{Contains}
use Rattle.std.specs.Fmt.{decimal}
use Rattle.cli_numbers.specs.Numbers.{AreListed, IsOption}
use Rattle.cli_numbers.proofs.Decimals.{decimals}
use Rattle.cli_numbers.proofs.Pieces.{one_text}
use Rattle.pass_list.specs.declared.kind.PassKind.{PassKind}
use Rattle.pass_list.proofs.Texts.{one_list}
use Rattle.rv64_instr.specs.Reserve.{RESERVABLE}
use Rattle.cli_numbers.specs.Reserve.{register_name, IsReserveText}
use Rattle.cli_numbers.proofs.Names.{names}
use Rattle.rv64_instr.specs.declared.symbol.Symbol.{Symbol}
use Rattle.cli_numbers.specs.Symbols.{pair_text, CanBeGiven, IsAddressText}
use Rattle.cli_numbers.proofs.SymbolTexts.{pairs_spelled}
use Rattle.cli.specs.declared.option.CommandOption.{CommandOption}
use Rattle.cli.specs.declared.option.CommandOption.TheVariants.{Passes, Reserve, Arguments, Answers, Frame, Inline, Linked, Linkable, FloatAbi, Symbols}
use Rattle.cli.specs.Options.{registers_text, numbers_text, symbols_text, word_of, IsAllowed, IsWordOf}

-- ---- one option for a word

one_reserve : (xs ys : List ℕ) → IsReserveText (registers_text xs) xs → IsReserveText (registers_text ys) ys → registers_text xs ≡ registers_text ys → xs ≡ ys
one_reserve xs ys hx hy e = one_text register_name (Contains RESERVABLE) names xs ys hx.some hy.some hx.reservable hy.reservable e

one_numbers : (most : ℕ) (xs ys : List ℕ) → AreListed most (numbers_text xs) xs → AreListed most (numbers_text ys) ys →
    numbers_text xs ≡ numbers_text ys → xs ≡ ys
one_numbers most xs ys hx hy e = one_text decimal (λ n. n < 2 ^ 64) decimals xs ys hx.some hy.some hx.small hy.small e

one_symbols : (xs ys : List (Symbol × ℕ)) → IsAddressText (symbols_text xs) xs → IsAddressText (symbols_text ys) ys → symbols_text xs ≡ symbols_text ys →
    xs ≡ ys
one_symbols xs ys hx hy e = one_text pair_text CanBeGiven pairs_spelled xs ys hx.some hy.some hx.given hy.given e

-- a byte in which two words differ
differ : (i m n : ℕ) (v w : List ℕ) → get_or v i 0 ≡ m → get_or w i 0 ≡ n → m < n → (v ≡ w → ⊥) × (w ≡ v → ⊥)
differ i m n v w hv hw lt = (
  λ e. (let b = ap (λ (x : List ℕ). get_or x i 0) e in omega (arith, b, hv, hw, lt)),
  λ e. (let b = ap (λ (x : List ℕ). get_or x i 0) e in omega (arith, b, hv, hw, lt)),
)

passes_reserve : (l : List PassKind) (r : List ℕ) → (word_of (Passes l) ≡ word_of (Reserve r) → ⊥) × (word_of (Reserve r) ≡ word_of (Passes l) → ⊥)
passes_reserve l r = differ 2 112 114 (word_of (Passes l)) (word_of (Reserve r)) refl refl (omega arith)

arguments_passes : (a : List ℕ) (l : List PassKind) → (word_of (Arguments a) ≡ word_of (Passes l) → ⊥) × (word_of (Passes l) ≡ word_of (Arguments a) → ⊥)
arguments_passes a l = differ 2 97 112 (word_of (Arguments a)) (word_of (Passes l)) refl refl (omega arith)

answers_passes : (a : List ℕ) (l : List PassKind) → (word_of (Answers a) ≡ word_of (Passes l) → ⊥) × (word_of (Passes l) ≡ word_of (Answers a) → ⊥)
answers_passes a l = differ 2 97 112 (word_of (Answers a)) (word_of (Passes l)) refl refl (omega arith)

arguments_reserve : (a r : List ℕ) → (word_of (Arguments a) ≡ word_of (Reserve r) → ⊥) × (word_of (Reserve r) ≡ word_of (Arguments a) → ⊥)
arguments_reserve a r = differ 2 97 114 (word_of (Arguments a)) (word_of (Reserve r)) refl refl (omega arith)

answers_reserve : (a r : List ℕ) → (word_of (Answers a) ≡ word_of (Reserve r) → ⊥) × (word_of (Reserve r) ≡ word_of (Answers a) → ⊥)
answers_reserve a r = differ 2 97 114 (word_of (Answers a)) (word_of (Reserve r)) refl refl (omega arith)

answers_arguments : (a b : List ℕ) → (word_of (Answers a) ≡ word_of (Arguments b) → ⊥) × (word_of (Arguments b) ≡ word_of (Answers a) → ⊥)
answers_arguments a b = differ 3 110 114 (word_of (Answers a)) (word_of (Arguments b)) refl refl (omega arith)

frame_passes : (l : List PassKind) → (word_of Frame ≡ word_of (Passes l) → ⊥) × (word_of (Passes l) ≡ word_of Frame → ⊥)
frame_passes l = differ 2 102 112 (word_of Frame) (word_of (Passes l)) refl refl (omega arith)

frame_reserve : (r : List ℕ) → (word_of Frame ≡ word_of (Reserve r) → ⊥) × (word_of (Reserve r) ≡ word_of Frame → ⊥)
frame_reserve r = differ 2 102 114 (word_of Frame) (word_of (Reserve r)) refl refl (omega arith)

arguments_frame : (a : List ℕ) → (word_of (Arguments a) ≡ word_of Frame → ⊥) × (word_of Frame ≡ word_of (Arguments a) → ⊥)
arguments_frame a = differ 2 97 102 (word_of (Arguments a)) (word_of Frame) refl refl (omega arith)

answers_frame : (a : List ℕ) → (word_of (Answers a) ≡ word_of Frame → ⊥) × (word_of Frame ≡ word_of (Answers a) → ⊥)
answers_frame a = differ 2 97 102 (word_of (Answers a)) (word_of Frame) refl refl (omega arith)

frame_inline : (word_of Frame ≡ word_of Inline → ⊥) × (word_of Inline ≡ word_of Frame → ⊥)
frame_inline = differ 2 102 105 (word_of Frame) (word_of Inline) refl refl (omega arith)

inline_passes : (l : List PassKind) → (word_of Inline ≡ word_of (Passes l) → ⊥) × (word_of (Passes l) ≡ word_of Inline → ⊥)
inline_passes l = differ 2 105 112 (word_of Inline) (word_of (Passes l)) refl refl (omega arith)

inline_reserve : (r : List ℕ) → (word_of Inline ≡ word_of (Reserve r) → ⊥) × (word_of (Reserve r) ≡ word_of Inline → ⊥)
inline_reserve r = differ 2 105 114 (word_of Inline) (word_of (Reserve r)) refl refl (omega arith)

arguments_inline : (a : List ℕ) → (word_of (Arguments a) ≡ word_of Inline → ⊥) × (word_of Inline ≡ word_of (Arguments a) → ⊥)
arguments_inline a = differ 2 97 105 (word_of (Arguments a)) (word_of Inline) refl refl (omega arith)

answers_inline : (a : List ℕ) → (word_of (Answers a) ≡ word_of Inline → ⊥) × (word_of Inline ≡ word_of (Answers a) → ⊥)
answers_inline a = differ 2 97 105 (word_of (Answers a)) (word_of Inline) refl refl (omega arith)

linked_passes : (l : List PassKind) → (word_of Linked ≡ word_of (Passes l) → ⊥) × (word_of (Passes l) ≡ word_of Linked → ⊥)
linked_passes l = differ 2 108 112 (word_of Linked) (word_of (Passes l)) refl refl (omega arith)

linked_reserve : (r : List ℕ) → (word_of Linked ≡ word_of (Reserve r) → ⊥) × (word_of (Reserve r) ≡ word_of Linked → ⊥)
linked_reserve r = differ 2 108 114 (word_of Linked) (word_of (Reserve r)) refl refl (omega arith)

arguments_linked : (a : List ℕ) → (word_of (Arguments a) ≡ word_of Linked → ⊥) × (word_of Linked ≡ word_of (Arguments a) → ⊥)
arguments_linked a = differ 2 97 108 (word_of (Arguments a)) (word_of Linked) refl refl (omega arith)

answers_linked : (a : List ℕ) → (word_of (Answers a) ≡ word_of Linked → ⊥) × (word_of Linked ≡ word_of (Answers a) → ⊥)
answers_linked a = differ 2 97 108 (word_of (Answers a)) (word_of Linked) refl refl (omega arith)

frame_linked : (word_of Frame ≡ word_of Linked → ⊥) × (word_of Linked ≡ word_of Frame → ⊥)
frame_linked = differ 2 102 108 (word_of Frame) (word_of Linked) refl refl (omega arith)

inline_linked : (word_of Inline ≡ word_of Linked → ⊥) × (word_of Linked ≡ word_of Inline → ⊥)
inline_linked = differ 2 105 108 (word_of Inline) (word_of Linked) refl refl (omega arith)

passes_symbols : (l : List PassKind) (p : List (Symbol × ℕ)) → (word_of (Passes l) ≡ word_of (Symbols p) → ⊥) × (word_of (Symbols p) ≡ word_of (Passes l) → ⊥)
passes_symbols l p = differ 2 112 115 (word_of (Passes l)) (word_of (Symbols p)) refl refl (omega arith)

reserve_symbols : (r : List ℕ) (p : List (Symbol × ℕ)) → (word_of (Reserve r) ≡ word_of (Symbols p) → ⊥) × (word_of (Symbols p) ≡ word_of (Reserve r) → ⊥)
reserve_symbols r p = differ 2 114 115 (word_of (Reserve r)) (word_of (Symbols p)) refl refl (omega arith)

arguments_symbols : (a : List ℕ) (p : List (Symbol × ℕ)) → (word_of (Arguments a) ≡ word_of (Symbols p) → ⊥) × (word_of (Symbols p) ≡ word_of (Arguments a) → ⊥)
arguments_symbols a p = differ 2 97 115 (word_of (Arguments a)) (word_of (Symbols p)) refl refl (omega arith)

answers_symbols : (a : List ℕ) (p : List (Symbol × ℕ)) → (word_of (Answers a) ≡ word_of (Symbols p) → ⊥) × (word_of (Symbols p) ≡ word_of (Answers a) → ⊥)
answers_symbols a p = differ 2 97 115 (word_of (Answers a)) (word_of (Symbols p)) refl refl (omega arith)

frame_symbols : (p : List (Symbol × ℕ)) → (word_of Frame ≡ word_of (Symbols p) → ⊥) × (word_of (Symbols p) ≡ word_of Frame → ⊥)
frame_symbols p = differ 2 102 115 (word_of Frame) (word_of (Symbols p)) refl refl (omega arith)

inline_symbols : (p : List (Symbol × ℕ)) → (word_of Inline ≡ word_of (Symbols p) → ⊥) × (word_of (Symbols p) ≡ word_of Inline → ⊥)
inline_symbols p = differ 2 105 115 (word_of Inline) (word_of (Symbols p)) refl refl (omega arith)

linked_symbols : (p : List (Symbol × ℕ)) → (word_of Linked ≡ word_of (Symbols p) → ⊥) × (word_of (Symbols p) ≡ word_of Linked → ⊥)
linked_symbols p = differ 2 108 115 (word_of Linked) (word_of (Symbols p)) refl refl (omega arith)

linkable_passes : (l : List PassKind) → (word_of Linkable ≡ word_of (Passes l) → ⊥) × (word_of (Passes l) ≡ word_of Linkable → ⊥)
linkable_passes l = differ 2 108 112 (word_of Linkable) (word_of (Passes l)) refl refl (omega arith)

linkable_reserve : (r : List ℕ) → (word_of Linkable ≡ word_of (Reserve r) → ⊥) × (word_of (Reserve r) ≡ word_of Linkable → ⊥)
linkable_reserve r = differ 2 108 114 (word_of Linkable) (word_of (Reserve r)) refl refl (omega arith)

arguments_linkable : (a : List ℕ) → (word_of (Arguments a) ≡ word_of Linkable → ⊥) × (word_of Linkable ≡ word_of (Arguments a) → ⊥)
arguments_linkable a = differ 2 97 108 (word_of (Arguments a)) (word_of Linkable) refl refl (omega arith)

answers_linkable : (a : List ℕ) → (word_of (Answers a) ≡ word_of Linkable → ⊥) × (word_of Linkable ≡ word_of (Answers a) → ⊥)
answers_linkable a = differ 2 97 108 (word_of (Answers a)) (word_of Linkable) refl refl (omega arith)

frame_linkable : (word_of Frame ≡ word_of Linkable → ⊥) × (word_of Linkable ≡ word_of Frame → ⊥)
frame_linkable = differ 2 102 108 (word_of Frame) (word_of Linkable) refl refl (omega arith)

inline_linkable : (word_of Inline ≡ word_of Linkable → ⊥) × (word_of Linkable ≡ word_of Inline → ⊥)
inline_linkable = differ 2 105 108 (word_of Inline) (word_of Linkable) refl refl (omega arith)

linkable_linked : (word_of Linkable ≡ word_of Linked → ⊥) × (word_of Linked ≡ word_of Linkable → ⊥)
linkable_linked = differ 6 97 101 (word_of Linkable) (word_of Linked) refl refl (omega arith)

linkable_symbols : (p : List (Symbol × ℕ)) → (word_of Linkable ≡ word_of (Symbols p) → ⊥) × (word_of (Symbols p) ≡ word_of Linkable → ⊥)
linkable_symbols p = differ 2 108 115 (word_of Linkable) (word_of (Symbols p)) refl refl (omega arith)

abi_passes : (l : List PassKind) → (word_of FloatAbi ≡ word_of (Passes l) → ⊥) × (word_of (Passes l) ≡ word_of FloatAbi → ⊥)
abi_passes l = differ 2 97 112 (word_of FloatAbi) (word_of (Passes l)) refl refl (omega arith)

abi_reserve : (r : List ℕ) → (word_of FloatAbi ≡ word_of (Reserve r) → ⊥) × (word_of (Reserve r) ≡ word_of FloatAbi → ⊥)
abi_reserve r = differ 2 97 114 (word_of FloatAbi) (word_of (Reserve r)) refl refl (omega arith)

abi_arguments : (a : List ℕ) → (word_of FloatAbi ≡ word_of (Arguments a) → ⊥) × (word_of (Arguments a) ≡ word_of FloatAbi → ⊥)
abi_arguments a = differ 3 98 114 (word_of FloatAbi) (word_of (Arguments a)) refl refl (omega arith)

abi_answers : (a : List ℕ) → (word_of FloatAbi ≡ word_of (Answers a) → ⊥) × (word_of (Answers a) ≡ word_of FloatAbi → ⊥)
abi_answers a = differ 3 98 110 (word_of FloatAbi) (word_of (Answers a)) refl refl (omega arith)

abi_frame : (word_of FloatAbi ≡ word_of Frame → ⊥) × (word_of Frame ≡ word_of FloatAbi → ⊥)
abi_frame = differ 2 97 102 (word_of FloatAbi) (word_of Frame) refl refl (omega arith)

abi_inline : (word_of FloatAbi ≡ word_of Inline → ⊥) × (word_of Inline ≡ word_of FloatAbi → ⊥)
abi_inline = differ 2 97 105 (word_of FloatAbi) (word_of Inline) refl refl (omega arith)

abi_linked : (word_of FloatAbi ≡ word_of Linked → ⊥) × (word_of Linked ≡ word_of FloatAbi → ⊥)
abi_linked = differ 2 97 108 (word_of FloatAbi) (word_of Linked) refl refl (omega arith)

abi_linkable : (word_of FloatAbi ≡ word_of Linkable → ⊥) × (word_of Linkable ≡ word_of FloatAbi → ⊥)
abi_linkable = differ 2 97 108 (word_of FloatAbi) (word_of Linkable) refl refl (omega arith)

abi_symbols : (p : List (Symbol × ℕ)) → (word_of FloatAbi ≡ word_of (Symbols p) → ⊥) × (word_of (Symbols p) ≡ word_of FloatAbi → ⊥)
abi_symbols p = differ 2 97 115 (word_of FloatAbi) (word_of (Symbols p)) refl refl (omega arith)

one_option : (a b : CommandOption) → IsAllowed a → IsAllowed b → word_of a ≡ word_of b → a ≡ b
one_option (Passes l) (Passes m) ha hb e = ap (λ (x : List PassKind). Passes x) (one_list l m (ap (drop 9) e))
one_option (Passes l) (Reserve r) ha hb e = absurd ((passes_reserve l r).0 e)
one_option (Passes l) (Arguments a) ha hb e = absurd ((arguments_passes a l).1 e)
one_option (Passes l) (Answers a) ha hb e = absurd ((answers_passes a l).1 e)
one_option (Passes l) Frame ha hb e = absurd ((frame_passes l).1 e)
one_option (Passes l) Inline ha hb e = absurd ((inline_passes l).1 e)
one_option (Passes l) Linked ha hb e = absurd ((linked_passes l).1 e)
one_option (Passes l) Linkable ha hb e = absurd ((linkable_passes l).1 e)
one_option (Passes l) FloatAbi ha hb e = absurd ((abi_passes l).1 e)
one_option (Passes l) (Symbols p) ha hb e = absurd ((passes_symbols l p).0 e)
one_option (Reserve r) (Passes l) ha hb e = absurd ((passes_reserve l r).1 e)
one_option (Reserve r) (Reserve s) ha hb e = ap (λ (x : List ℕ). Reserve x) (one_reserve r s ha hb (ap (drop 10) e))
one_option (Reserve r) (Arguments a) ha hb e = absurd ((arguments_reserve a r).1 e)
one_option (Reserve r) (Answers a) ha hb e = absurd ((answers_reserve a r).1 e)
one_option (Reserve r) Frame ha hb e = absurd ((frame_reserve r).1 e)
one_option (Reserve r) Inline ha hb e = absurd ((inline_reserve r).1 e)
one_option (Reserve r) Linked ha hb e = absurd ((linked_reserve r).1 e)
one_option (Reserve r) Linkable ha hb e = absurd ((linkable_reserve r).1 e)
one_option (Reserve r) FloatAbi ha hb e = absurd ((abi_reserve r).1 e)
one_option (Reserve r) (Symbols p) ha hb e = absurd ((reserve_symbols r p).0 e)
one_option (Arguments a) (Passes l) ha hb e = absurd ((arguments_passes a l).0 e)
one_option (Arguments a) (Reserve r) ha hb e = absurd ((arguments_reserve a r).0 e)
one_option (Arguments a) (Arguments b) ha hb e = ap (λ (x : List ℕ). Arguments x) (one_numbers 8 a b ha hb (ap (drop 7) e))
one_option (Arguments a) (Answers b) ha hb e = absurd ((answers_arguments b a).1 e)
one_option (Arguments a) Frame ha hb e = absurd ((arguments_frame a).0 e)
one_option (Arguments a) Inline ha hb e = absurd ((arguments_inline a).0 e)
one_option (Arguments a) Linked ha hb e = absurd ((arguments_linked a).0 e)
one_option (Arguments a) Linkable ha hb e = absurd ((arguments_linkable a).0 e)
one_option (Arguments a) FloatAbi ha hb e = absurd ((abi_arguments a).1 e)
one_option (Arguments a) (Symbols p) ha hb e = absurd ((arguments_symbols a p).0 e)
one_option (Answers a) (Passes l) ha hb e = absurd ((answers_passes a l).0 e)
one_option (Answers a) (Reserve r) ha hb e = absurd ((answers_reserve a r).0 e)
one_option (Answers a) (Arguments b) ha hb e = absurd ((answers_arguments a b).0 e)
one_option (Answers a) (Answers b) ha hb e = ap (λ (x : List ℕ). Answers x) (one_numbers 64 a b ha hb (ap (drop 10) e))
one_option (Answers a) Frame ha hb e = absurd ((answers_frame a).0 e)
one_option (Answers a) Inline ha hb e = absurd ((answers_inline a).0 e)
one_option (Answers a) Linked ha hb e = absurd ((answers_linked a).0 e)
one_option (Answers a) Linkable ha hb e = absurd ((answers_linkable a).0 e)
one_option (Answers a) FloatAbi ha hb e = absurd ((abi_answers a).1 e)
one_option (Answers a) (Symbols p) ha hb e = absurd ((answers_symbols a p).0 e)
one_option Frame (Passes l) ha hb e = absurd ((frame_passes l).0 e)
one_option Frame (Reserve r) ha hb e = absurd ((frame_reserve r).0 e)
one_option Frame (Arguments a) ha hb e = absurd ((arguments_frame a).1 e)
one_option Frame (Answers a) ha hb e = absurd ((answers_frame a).1 e)
one_option Frame Frame ha hb e = refl
one_option Frame Inline ha hb e = absurd (frame_inline.0 e)
one_option Frame Linked ha hb e = absurd (frame_linked.0 e)
one_option Frame Linkable ha hb e = absurd (frame_linkable.0 e)
one_option Frame FloatAbi ha hb e = absurd (abi_frame.1 e)
one_option Frame (Symbols p) ha hb e = absurd ((frame_symbols p).0 e)
one_option Inline (Passes l) ha hb e = absurd ((inline_passes l).0 e)
one_option Inline (Reserve r) ha hb e = absurd ((inline_reserve r).0 e)
one_option Inline (Arguments a) ha hb e = absurd ((arguments_inline a).1 e)
one_option Inline (Answers a) ha hb e = absurd ((answers_inline a).1 e)
one_option Inline Frame ha hb e = absurd (frame_inline.1 e)
one_option Inline Inline ha hb e = refl
one_option Inline Linked ha hb e = absurd (inline_linked.0 e)
one_option Inline Linkable ha hb e = absurd (inline_linkable.0 e)
one_option Inline FloatAbi ha hb e = absurd (abi_inline.1 e)
one_option Inline (Symbols p) ha hb e = absurd ((inline_symbols p).0 e)
one_option Linked (Passes l) ha hb e = absurd ((linked_passes l).0 e)
one_option Linked (Reserve r) ha hb e = absurd ((linked_reserve r).0 e)
one_option Linked (Arguments a) ha hb e = absurd ((arguments_linked a).1 e)
one_option Linked (Answers a) ha hb e = absurd ((answers_linked a).1 e)
one_option Linked Frame ha hb e = absurd (frame_linked.1 e)
one_option Linked Inline ha hb e = absurd (inline_linked.1 e)
one_option Linked Linked ha hb e = refl
one_option Linked Linkable ha hb e = absurd (linkable_linked.1 e)
one_option Linked FloatAbi ha hb e = absurd (abi_linked.1 e)
one_option Linked (Symbols p) ha hb e = absurd ((linked_symbols p).0 e)
one_option Linkable (Passes l) ha hb e = absurd ((linkable_passes l).0 e)
one_option Linkable (Reserve r) ha hb e = absurd ((linkable_reserve r).0 e)
one_option Linkable (Arguments a) ha hb e = absurd ((arguments_linkable a).1 e)
one_option Linkable (Answers a) ha hb e = absurd ((answers_linkable a).1 e)
one_option Linkable Frame ha hb e = absurd (frame_linkable.1 e)
one_option Linkable Inline ha hb e = absurd (inline_linkable.1 e)
one_option Linkable Linked ha hb e = absurd (linkable_linked.0 e)
one_option Linkable Linkable ha hb e = refl
one_option Linkable FloatAbi ha hb e = absurd (abi_linkable.1 e)
one_option Linkable (Symbols p) ha hb e = absurd ((linkable_symbols p).0 e)
one_option FloatAbi (Passes l) ha hb e = absurd ((abi_passes l).0 e)
one_option FloatAbi (Reserve r) ha hb e = absurd ((abi_reserve r).0 e)
one_option FloatAbi (Arguments a) ha hb e = absurd ((abi_arguments a).0 e)
one_option FloatAbi (Answers a) ha hb e = absurd ((abi_answers a).0 e)
one_option FloatAbi Frame ha hb e = absurd (abi_frame.0 e)
one_option FloatAbi Inline ha hb e = absurd (abi_inline.0 e)
one_option FloatAbi Linked ha hb e = absurd (abi_linked.0 e)
one_option FloatAbi Linkable ha hb e = absurd (abi_linkable.0 e)
one_option FloatAbi FloatAbi ha hb e = refl
one_option FloatAbi (Symbols p) ha hb e = absurd ((abi_symbols p).0 e)
one_option (Symbols p) (Passes l) ha hb e = absurd ((passes_symbols l p).1 e)
one_option (Symbols p) (Reserve r) ha hb e = absurd ((reserve_symbols r p).1 e)
one_option (Symbols p) (Arguments a) ha hb e = absurd ((arguments_symbols a p).1 e)
one_option (Symbols p) (Answers a) ha hb e = absurd ((answers_symbols a p).1 e)
one_option (Symbols p) Frame ha hb e = absurd ((frame_symbols p).1 e)
one_option (Symbols p) Inline ha hb e = absurd ((inline_symbols p).1 e)
one_option (Symbols p) Linked ha hb e = absurd ((linked_symbols p).1 e)
one_option (Symbols p) Linkable ha hb e = absurd ((linkable_symbols p).1 e)
one_option (Symbols p) FloatAbi ha hb e = absurd ((abi_symbols p).1 e)
one_option (Symbols p) (Symbols q) ha hb e = ap (λ (x : List (Symbol × ℕ)). Symbols x) (one_symbols p q ha hb (ap (drop 10) e))

one_value : (a b : CommandOption) → ◌≡◌ {A = Option CommandOption} (Some a) (Some b) → a ≡ b
one_value a b e = cc

-- an option that the word is is the one
pub the_option : (word : List ℕ) (a : CommandOption) → IsWordOf a word → (b : CommandOption) →
    (◌≡◌ {A = Option CommandOption} (Some a) (Some b)) ↔ IsWordOf b word
the_option word a is b = (
  λ e. subst (λ (x : CommandOption). IsWordOf x word) (one_value a b e) is,
  λ other. ap (λ (x : CommandOption). Some x) (one_option a b is.1 other.1 (sym is.0 ∙ other.0)),
)

-- a word that is no option of any kind is none
pub no_option : (word : List ℕ) → (word ≡ codes "--frame" → ⊥) → (word ≡ codes "--inline" → ⊥) → (word ≡ codes "--linked" → ⊥) →
    (word ≡ codes "--linkable" → ⊥) → (word ≡ codes "--abi=lp64d" → ⊥) → ((l : List PassKind) → IsWordOf (Passes l) word → ⊥) → ((r : List ℕ) → IsWordOf (Reserve r) word → ⊥) →
    ((a : List ℕ) → IsWordOf (Arguments a) word → ⊥) → ((a : List ℕ) → IsWordOf (Answers a) word → ⊥) →
    ((s : List (Symbol × ℕ)) → IsWordOf (Symbols s) word → ⊥) → (b : CommandOption) → (◌≡◌ {A = Option CommandOption} None (Some b)) ↔ IsWordOf b word
no_option word f i k b d p r n a y (Passes l) = (λ e. absurd cc, λ h. absurd (p l h))
no_option word f i k b d p r n a y (Reserve s) = (λ e. absurd cc, λ h. absurd (r s h))
no_option word f i k b d p r n a y (Arguments s) = (λ e. absurd cc, λ h. absurd (n s h))
no_option word f i k b d p r n a y (Answers s) = (λ e. absurd cc, λ h. absurd (a s h))
no_option word f i k b d p r n a y Frame = (λ e. absurd cc, λ h. absurd (f h.0))
no_option word f i k b d p r n a y Inline = (λ e. absurd cc, λ h. absurd (i h.0))
no_option word f i k b d p r n a y Linked = (λ e. absurd cc, λ h. absurd (k h.0))
no_option word f i k b d p r n a y Linkable = (λ e. absurd cc, λ h. absurd (b h.0))
no_option word f i k b d p r n a y FloatAbi = (λ e. absurd cc, λ h. absurd (d h.0))
no_option word f i k b d p r n a y (Symbols s) = (λ e. absurd cc, λ h. absurd (y s h))

-- ---- numbers and registers as they are read

-- an option of numbers, and its word
pub numbers_word : (most : ℕ) (name word values : List ℕ) → IsOption most name word values →
    (word ≡ name ++ numbers_text values) × AreListed most (numbers_text values) values
numbers_word most name word values h =
    (h.named ∙ ap (λ (t : List ℕ). name ++ t) h.lists.listed, subst (λ (t : List ℕ). AreListed most t values) h.lists.listed h.lists)

pub word_numbers : (most : ℕ) (name word values : List ℕ) → word ≡ name ++ numbers_text values → AreListed most (numbers_text values) values →
    IsOption most name word values
word_numbers most name word values e h = record { list = numbers_text values; named = e; lists = h }
