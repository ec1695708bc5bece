-- The value of a field is looked for from the first field on.
use Rattle.std.proofs.Common.{◌≡◌, ℕ, ◌+◌, ◌<◌, ◌≤◌, Bool, true, false, cond, List, [], ◌∷◌, ◌++◌, length, get_or, take, drop, Option, Some, None, refl, sym}
use Rattle.std.proofs.Common.{ap, ◌∙◌}
use Rattle.std.proofs.lemmas.List.{take_all, take-append-drop, drop_more}
use Rattle.std.specs.Str.{bytes_eq}
use Rattle.read_lexer.specs.declared.parts.Token.{Token}
use Rattle.read_metadata.specs.declared.field.Field.{Field}
use Rattle.read_metadata.specs.Token.{text_of}
use Rattle.read_metadata.specs.Field.{values_at, at_most_one, one_more, only_value}

-- the value of a field, if it has the key
abbrev value_if : Bool → Field → List (Option Token) → List (Option Token)
value_if b f vs = cond b (f.value ∷ vs) vs

values_at-cons : (line key : List ℕ) (f : Field) (fs : List Field) (b : Bool) → bytes_eq (text_of line f.key) key ≡ b →
    values_at line key (f ∷ fs) ≡ value_if b f (values_at line key fs)
values_at-cons line key f fs true e = rw e refl
values_at-cons line key f fs false e = rw e refl

values_at-append : (line key : List ℕ) (fs gs : List Field) → values_at line key (fs ++ gs) ≡ values_at line key fs ++ values_at line key gs
values_at-append line key [] gs = refl
values_at-append line key (f ∷ fs) gs = by_key _ refl (values_at-append line key fs gs)
  where
    by_key : (b : Bool) → bytes_eq (text_of line f.key) key ≡ b → values_at line key (fs ++ gs) ≡ values_at line key fs ++ values_at line key gs →
        values_at line key (f ∷ (fs ++ gs)) ≡ values_at line key (f ∷ fs) ++ values_at line key gs
    by_key true e same = rw (values_at-cons line key f (fs ++ gs) true e, values_at-cons line key f fs true e)
        (ap (λ (r : List (Option Token)). f.value ∷ r) same)
    by_key false e same = rw (values_at-cons line key f (fs ++ gs) false e, values_at-cons line key f fs false e) same

nothing_yet : (us : List (Option Token)) → Some None ≡ at_most_one us → us ≡ []
nothing_yet [] e = refl
nothing_yet (None ∷ []) e = absurd cc
nothing_yet (None ∷ v ∷ us) e = absurd cc
nothing_yet (Some t ∷ []) e = absurd cc
nothing_yet (Some t ∷ v ∷ us) e = absurd cc

second : (t : Token) (us : List (Option Token)) (v : Option Token) (vs : List (Option Token)) → Some (Some t) ≡ at_most_one us →
    at_most_one (us ++ v ∷ vs) ≡ None
second t [] v vs e = absurd cc
second t (None ∷ []) v vs e = refl
second t (None ∷ w ∷ us) v vs e = refl
second t (Some s ∷ []) v vs e = refl
second t (Some s ∷ w ∷ us) v vs e = refl

-- one more value, and others behind it
more_values : (found : Option Token) (us : List (Option Token)) (v : Option Token) (vs : List (Option Token)) → Some found ≡ at_most_one us →
    None ≡ one_more found v → at_most_one (us ++ v ∷ vs) ≡ None
more_values None us (Some t) vs yet e = absurd cc
more_values None us None [] yet e = rw (nothing_yet us yet) refl
more_values None us None (w ∷ vs) yet e = rw (nothing_yet us yet) refl
more_values (Some s) us v vs yet e = second s us v vs yet

-- a value that makes a line unreadable
pub stops : (line key : List ℕ) (fs : List Field) (i : ℕ) (d : Field) (found : Option Token) → i < length fs →
    Some found ≡ at_most_one (values_at line key (take i fs))
    → bytes_eq (text_of line (get_or fs i d).key) key ≡ true → None ≡ one_more found (get_or fs i d).value → None ≡ only_value line key fs
unfolding only_value
stops line key fs i d found lt yet same none =
    let f = get_or fs i d in
    let split : fs ≡ take i fs ++ f ∷ drop (i + 1) fs = sym (take-append-drop i fs) ∙ ap (λ (r : List Field). take i fs ++ r) (drop_more fs i d lt) in
    let parts : values_at line key fs ≡ values_at line key (take i fs) ++ f.value ∷ values_at line key (drop (i + 1) fs) =
    ap (values_at line key) split ∙ values_at-append line key (take i fs) (f ∷ drop (i + 1) fs)
    ∙ ap (λ (r : List (Option Token)). values_at line key (take i fs) ++ r) (values_at-cons line key f (drop (i + 1) fs) true same) in
    sym (ap at_most_one parts ∙ more_values found (values_at line key (take i fs)) f.value (values_at line key (drop (i + 1) fs)) yet none)

-- all fields were looked at
pub all_seen : (line key : List ℕ) (fs : List Field) (i : ℕ) (found : Option Token) → length fs ≤ i →
    Some found ≡ at_most_one (values_at line key (take i fs)) → Some found ≡ only_value line key fs
unfolding only_value
all_seen line key fs i found all yet = yet ∙ ap (λ (r : List Field). at_most_one (values_at line key r)) (take_all i fs all)
