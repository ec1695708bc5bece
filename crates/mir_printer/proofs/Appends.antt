-- Texts that are appended one behind the other.
use Rattle.std.proofs.Common.{◌≡◌, ℕ, List, ◌++◌, ◌∙◌, ap, append_assoc}
use Rattle.std.specs.Prelude.{Result, Ok, Err, OnOk}
use Rattle.std.specs.Fmt.{decimal}

-- two pieces are one
pub joined : (old mid new a b : List ℕ) → mid ≡ old ++ a → new ≡ mid ++ b → new ≡ old ++ (a ++ b)
joined old mid new a b first second = second ∙ (ap (λ t. t ++ b) first ∙ append_assoc old a b)

-- the last piece ends the whole
pub ended : {T E : Type 0} (r : Result T E) (old mid new a b whole : List ℕ) → mid ≡ old ++ a → OnOk r (new ≡ mid ++ b) → a ++ b ≡ whole →
    OnOk r (new ≡ old ++ whole)
ended (Ok x) old mid new a b whole first second all = joined old mid new a b first second ∙ ap (λ t. old ++ t) all
ended (Err e) old mid new a b whole first second all = tt

-- three labelled numbers, one more text and an end
pub labelled_more : (a l b m c n i e : List ℕ) → ((((a ++ l) ++ (b ++ m)) ++ (c ++ n)) ++ i) ++ e ≡ a ++ l ++ b ++ m ++ c ++ n ++ i ++ e
labelled_more a l b m c n i e = simp append_assoc

-- a labelled number, two more texts, two labelled numbers and an end
pub labelled_pair : (a n b t c k d o e : List ℕ) → (((((a ++ n) ++ b) ++ t) ++ (c ++ k)) ++ (d ++ o)) ++ e ≡ a ++ n ++ b ++ t ++ c ++ k ++ d ++ o ++ e
labelled_pair a n b t c k d o e = simp append_assoc

-- the number behind a label is another's
pub numbered : (old new label : List ℕ) (m n : ℕ) → new ≡ old ++ (label ++ decimal m) → m ≡ n → new ≡ old ++ (label ++ decimal n)
numbered old new label m n is same = is ∙ ap (λ (k : ℕ). old ++ (label ++ decimal k)) same

-- the only piece is the whole
pub alone : {T E : Type 0} (r : Result T E) (old new a whole : List ℕ) → OnOk r (new ≡ old ++ a) → a ≡ whole → OnOk r (new ≡ old ++ whole)
alone (Ok x) old new a whole is all = is ∙ ap (λ t. old ++ t) all
alone (Err e) old new a whole is all = tt
