-- The index of the entry of each word, one entry after the other.
use Rattle.std.proofs.Common.{◌≡◌, ℕ, suc, ◌+◌, ◌<◌, ◌≤◌, List, [], ◌∷◌, ◌++◌, length, get_or, drop, Bool, true, false, cond}
use Rattle.std.proofs.Common.{refl, sym, ap, ◌∙◌, arith, append_assoc, append-nil}
use Rattle.std.proofs.Math.Seq.{drop-cons}
use Rattle.std.proofs.lemmas.List.{drop_all}
use Rattle.emit_code.specs.declared.code.EncodedInstruction.{EncodedInstruction}
use Rattle.sim_machine.specs.Shown.{word_place, word_places}

pub place_of_call : (xs : List ℕ) (i : ℕ) (e : EncodedInstruction) → e.call ≡ true → (xs ++ i ∷ []) ++ i ∷ [] ≡ xs ++ word_place i e
place_of_call xs i e call =
    append_assoc xs (i ∷ []) (i ∷ []) ∙ ap (λ (c : Bool). xs ++ cond c (i ∷ i ∷ []) (i ∷ [])) (sym call)

pub place_of_word : (xs : List ℕ) (i : ℕ) (e : EncodedInstruction) → e.call ≡ false → xs ++ i ∷ [] ≡ xs ++ word_place i e
place_of_word xs i e word = ap (λ (c : Bool). xs ++ cond c (i ∷ i ∷ []) (i ∷ [])) (sym word)

drop_none : (es : List EncodedInstruction) → drop 0 es ≡ es
drop_none [] = refl
drop_none (e ∷ es) = refl

pub places_begin : (es : List EncodedInstruction) (xs : List ℕ) → xs ≡ [] → xs ++ word_places 0 (drop 0 es) ≡ word_places 0 es
places_begin es xs none = (λ i. none i ++ word_places 0 (drop_none es i))

-- one more entry
pub places_on : (es : List EncodedInstruction) (xs ys : List ℕ) (i : ℕ) (e : EncodedInstruction) → i < length es → e ≡ get_or es i e →
    ys ≡ xs ++ word_place i e → xs ++ word_places i (drop i es) ≡ word_places 0 es → ys ++ word_places (i + 1) (drop (i + 1) es) ≡ word_places 0 es
places_on es xs ys i e less is more so_far =
    let one : i + 1 ≡ suc i = omega arith in
    let here : drop i es ≡ e ∷ drop (suc i) es = drop-cons es i e less ∙ ap (λ (x : EncodedInstruction). x ∷ drop (suc i) es) (sym is) in
    ap (λ (zs : List ℕ). zs ++ word_places (i + 1) (drop (i + 1) es)) more ∙
    ap (λ (k : ℕ). (xs ++ word_place i e) ++ word_places k (drop k es)) one ∙
    append_assoc xs (word_place i e) (word_places (suc i) (drop (suc i) es)) ∙
    ap (λ (ds : List EncodedInstruction). xs ++ word_places i ds) (sym here) ∙ so_far

pub places_end : (es : List EncodedInstruction) (xs : List ℕ) (i : ℕ) → length es ≤ i → xs ++ word_places i (drop i es) ≡ word_places 0 es →
    xs ≡ word_places 0 es
places_end es xs i all so_far = sym (append-nil xs) ∙ ap (λ (ds : List EncodedInstruction). xs ++ word_places i ds) (sym (drop_all i es all)) ∙ so_far
