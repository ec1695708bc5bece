-- The metadata of lines grows line by line.
use Rattle.std.proofs.Common.{Ordering, Less, Equal, Greater, ◌≡◌, ℕ, ◌+◌, ◌<◌, Bool, true, false, cond, List, [], ◌∷◌, ◌++◌, length, get_or, take, Option}
use Rattle.std.proofs.Common.{Some, None, refl, sym, ap, ◌∙◌}
use Rattle.std.specs.Prelude.{is_some}
use Rattle.std.specs.List.{cons_option}
use Rattle.std.proofs.lemmas.List.{append-nil, take_more}
use Rattle.std.proofs.lemmas.List.Elements.{filter_map-append}
use Rattle.std.specs.Ordering.{nat_cmp, is_eq, eq_by_cmp}
use Rattle.std.specs.Cmp.{IsTotalOrder, nat_cmp_total}
use Rattle.std.specs.Cmp.Lexicographic.{slice_cmp, nat_list_cmp_total}
use Rattle.std.specs.FinMap.{FinMap, IsAntisymmetric, nat_cmp-IsAntisymmetric, slice_cmp-IsAntisymmetric, from_entries, insert, find, get-from_entries}
use Rattle.std.specs.FinMap.{same_map, from_entries_push}
use Rattle.read_lexer.specs.declared.line.Line.{Line}
use Rattle.read_metadata.specs.declared.node.Node.{Node}
use Rattle.read_metadata.specs.Line.{behind_spaces, node_of_line}
use Rattle.read_metadata.specs.Definition.{definition_of_line}
use Rattle.read_metadata.specs.Maps.{Maps, with_new}
use Rattle.read_metadata.specs.Metadata.{nodes_of, subprograms_of, metadata_of, with_given, with_defined, with_line}

-- the first of two, if one is there
abbrev first_there : {X : Type 0} → Option X → Option X → Option X
first_there None other = other
first_there (Some x) other = Some x

first_there-none : {X : Type 0} (found : Option X) → first_there found None ≡ found
first_there-none None = refl
first_there-none (Some x) = refl

first_there-cond : {X : Type 0} (b : Bool) (x : X) (found other : Option X) →
    first_there (cond b (Some x) found) other ≡ cond b (Some x) (first_there found other)
first_there-cond true x found other = refl
first_there-cond false x found other = refl

-- a map with what is given, if its key isn't there
abbrev with_option : {K X : Type 0} {R : K → K → Ordering} → FinMap R X → Option (K × X) → FinMap R X
with_option m None = m
with_option m (Some e) = with_new m e.0 e.1

ties : (r : Ordering) → is_eq r ≡ true → r ≡ Equal
ties Less e = absurd cc
ties Equal e = refl
ties Greater e = absurd cc

module _ {K X : Type 0} {R : K → K → Ordering} (o : IsTotalOrder R) (same : IsAntisymmetric R) where
  find-one_more : (es : List (K × X)) (k : K) (v : X) (q : K) → find R q (es ++ (k, v) ∷ []) ≡ first_there (find R q es) (cond (eq_by_cmp R q k) (Some v) None)
  find-one_more [] k v q = refl
  find-one_more (e ∷ es) k v q = ap (cond (eq_by_cmp R q e.0) (Some e.1)) (find-one_more es k v q)
      ∙ sym (first_there-cond (eq_by_cmp R q e.0) e.1 (find R q es) (cond (eq_by_cmp R q k) (Some v) None))

  -- an entry whose key stood before changes nothing
  no_change : (es : List (K × X)) (k : K) (v w : X) → find R k es ≡ Some w → (q : K) → find R q (es ++ (k, v) ∷ []) ≡ find R q es
  no_change es k v w there q = find-one_more es k v q ∙ by_key (eq_by_cmp R q k) refl
    where
      by_key : (b : Bool) → eq_by_cmp R q k ≡ b → first_there (find R q es) (cond b (Some v) None) ≡ find R q es
      by_key false e = first_there-none (find R q es)
      by_key true e = let found : find R q es ≡ Some w = ap (λ (x : K). find R x es) (same q k (ties (R q k) e)) ∙ there in rw found refl

  one_more : (es : List (K × X)) (k : K) (v : X) (found : Option X) → find R k es ≡ found →
      from_entries {R = R} (es ++ (k, v) ∷ []) ≡ with_new (from_entries es) k v
  one_more es k v None none = from_entries_push o same es k v none
      ∙ ap (λ (b : Bool). cond b (from_entries {R = R} es) (insert (from_entries es) k v)) (sym (ap is_some (get-from_entries o es k ∙ none)))
  one_more es k v (Some w) there =
      same_map o same _ _ (λ q. get-from_entries o _ q ∙ no_change es k v w there q ∙ sym (get-from_entries o es q))
      ∙ ap (λ (b : Bool). cond b (from_entries {R = R} es) (insert (from_entries es) k v)) (sym (ap is_some (get-from_entries o es k ∙ there)))

  given_more : (es : List (K × X)) (given : Option (K × X)) → from_entries {R = R} (es ++ cons_option given []) ≡ with_option (from_entries es) given
  given_more es None = ap from_entries (append-nil es)
  given_more es (Some e) = one_more es e.0 e.1 (find R e.0 es) refl

both : (m : Maps) (given : Option (ℕ × Node)) (defined : Option (List ℕ × ℕ)) →
    record { nodes = with_option m.nodes given; subprograms = with_option m.subprograms defined } ≡ with_defined (with_given m given) defined
both m None None = refl
both m None (Some d) = refl
both m (Some g) None = refl
both m (Some g) (Some d) = refl

-- one more line
metadata_of-append : (ls : List Line) (l : Line) → metadata_of (ls ++ l ∷ []) ≡ with_line (metadata_of ls) l.text
unfolding metadata_of
metadata_of-append ls l =
    let given = node_of_line (behind_spaces l.text) in
    let defined = definition_of_line (behind_spaces l.text) in
    let n : from_entries {R = nat_cmp} (nodes_of (ls ++ l ∷ [])) ≡ with_option (from_entries (nodes_of ls)) given =
    ap from_entries (filter_map-append (λ (x : Line). node_of_line (behind_spaces x.text)) ls (l ∷ []))
    ∙ given_more nat_cmp_total nat_cmp-IsAntisymmetric (nodes_of ls) given in
    let s : from_entries {R = slice_cmp nat_cmp} (subprograms_of (ls ++ l ∷ [])) ≡ with_option (from_entries (subprograms_of ls)) defined =
    ap from_entries (filter_map-append (λ (x : Line). definition_of_line (behind_spaces x.text)) ls (l ∷ []))
    ∙ given_more nat_list_cmp_total (slice_cmp-IsAntisymmetric nat_cmp-IsAntisymmetric) (subprograms_of ls) defined in
    let parts : metadata_of (ls ++ l ∷ []) ≡ record {
      nodes = with_option (metadata_of ls).nodes given;
      subprograms =
          with_option (metadata_of ls).subprograms defined;
    } = λ i. record { nodes = n i; subprograms = s i } in
    parts ∙ both (metadata_of ls) given defined

-- the next line is taken
pub next_line : (ls items : List Line) (i : ℕ) (l : Line) (m now : Maps) (text : List ℕ) → items ≡ ls → i < length items → l ≡ get_or items i l → text ≡ l.text
    → m ≡ metadata_of (take i ls) → now ≡ with_line m text → now ≡ metadata_of (take (i + 1) ls)
next_line ls items i l m now text same lt is spelled before taken =
    let more : take (i + 1) ls ≡ take i ls ++ l ∷ [] =
    ap (take (i + 1)) (sym same) ∙ take_more items i l lt ∙ ap (λ (x : Line). take i items ++ x ∷ []) (sym is)
    ∙ ap (λ (r : List Line). take i r ++ l ∷ []) same in
    taken ∙ ap (with_line m) spelled ∙ ap (λ (x : Maps). with_line x l.text) before ∙ sym (metadata_of-append (take i ls) l) ∙ ap metadata_of (sym more)
