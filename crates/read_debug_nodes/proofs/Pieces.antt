-- The pieces of a node are read from left to right.
use Rattle.std.proofs.Common.{◌≡◌, ℕ, ◌+◌, ◌-◌, ◌<◌, ◌≤◌, Bool, true, false, ◌&&◌, ◌||◌, eqb, cond, List, [], ◌∷◌, ◌++◌, length, get_or, take, drop, Option}
use Rattle.std.proofs.Common.{Some, None, refl, sym, ap, ◌∙◌, append_assoc, arith}
use Rattle.std.proofs.lemmas.List.{append-nil, drop_more, drop_all, take_more, take_rest, length-drop, get_or-drop}
use Rattle.std.proofs.lemmas.Bool.{eqb-true}
use Rattle.read_metadata.specs.read_lexer.declared.parts.Token.{Token}
use Rattle.read_debug_nodes.specs.declared.field.NodeField.{NodeField}
use Rattle.read_metadata.specs.Token.{is_byte}
use Rattle.read_metadata.specs.Field.{closes, is_end, ends_piece, depth_behind, in_piece, new_piece, pieces}
use Rattle.read_debug_nodes.specs.Field.{ended, field_of, before_fields, each_field, all_fields, fields_of}

-- fields that were read, and those that are still read
abbrev pub behind : List NodeField → Option (List NodeField) → Option (List NodeField)
behind done None = None
behind done (Some fs) = Some (done ++ fs)

-- pieces with tokens at the front of the first
abbrev pub with_front : List Token → Option (List (List Token)) → Option (List (List Token))
with_front front None = None
with_front front (Some []) = Some []
with_front front (Some (p ∷ ps)) = Some ((front ++ p) ∷ ps)

-- the fields that were read, the tokens of the piece that is being read, and what is still read
abbrev pub gathered : List NodeField → List Token → Option (List (List Token)) → Option (List NodeField)
gathered done front read = behind done (all_fields (with_front front read))

-- what stands at a token that ends a piece
abbrev piece_end : Bool → Bool → Option (List (List Token)) → Option (List (List Token))
piece_end comma last read = cond comma (new_piece read) (cond last (Some ([] ∷ [])) None)

with_front-nil : (read : Option (List (List Token))) → with_front [] read ≡ read
with_front-nil None = refl
with_front-nil (Some []) = refl
with_front-nil (Some (p ∷ ps)) = refl

with_front-in_piece : (front : List Token) (t : Token) (read : Option (List (List Token))) →
    with_front front (in_piece t read) ≡ with_front (front ++ t ∷ []) read
with_front-in_piece front t None = refl
with_front-in_piece front t (Some []) = refl
with_front-in_piece front t (Some (p ∷ ps)) = ap (λ (x : List Token). Some (x ∷ ps)) (sym (append_assoc front (t ∷ []) p))

behind-nil : (read : Option (List NodeField)) → behind [] read ≡ read
behind-nil None = refl
behind-nil (Some fs) = refl

behind-before_fields : (done : List NodeField) (f : NodeField) (read : Option (List NodeField)) →
    behind done (before_fields (Some f) read) ≡ behind (done ++ f ∷ []) read
behind-before_fields done f None = refl
behind-before_fields done f (Some fs) = ap (λ (x : List NodeField). Some x) (sym (append_assoc done (f ∷ []) fs))

-- at the front nothing was read
pub begins : (ts : List Token) → gathered [] [] (pieces 0 ts) ≡ all_fields (pieces 0 ts)
begins ts = behind-nil (all_fields (with_front [] (pieces 0 ts))) ∙ ap all_fields (with_front-nil (pieces 0 ts))

-- a field was read, and a comma stands behind it
gathered-new_piece : (done : List NodeField) (front : List Token) (f : NodeField) (read : Option (List (List Token))) → Some f ≡ field_of front
    → gathered done front (new_piece read) ≡ gathered (done ++ f ∷ []) [] read
gathered-new_piece done front f None is = refl
gathered-new_piece done front f (Some []) is = rw (append-nil front, ← is) (ap (λ (x : List NodeField). Some x) (sym (append-nil (done ++ f ∷ []))))
gathered-new_piece done front f (Some (p ∷ ps)) is = rw (append-nil front, ← is) (behind-before_fields done f (each_field (p ∷ ps)))

-- what was read is no field
no_field : (done : List NodeField) (front : List Token) (comma last : Bool) (read : Option (List (List Token))) → None ≡ field_of front →
    gathered done front (piece_end comma last read) ≡ None
no_field done front true last None none = refl
no_field done front true last (Some ps) none = rw (append-nil front, ← none) refl
no_field done front false true read none = rw (append-nil front, ← none) refl
no_field done front false false read none = refl

-- a field was read, and no comma stands behind it
last_field : (done : List NodeField) (front : List Token) (f : NodeField) (last : Bool) (read : Option (List (List Token))) → Some f ≡ field_of front
    → gathered done front (piece_end false last read) ≡ cond last (Some (done ++ f ∷ [])) None
last_field done front f true read is = rw (append-nil front, ← is) refl
last_field done front f false read is = refl

at_token : (depth : ℕ) (t : Token) (ts : List Token) (ends : Bool) → ends_piece depth t ≡ ends →
    pieces depth (t ∷ ts) ≡ cond ends (piece_end (is_byte 44 t) (is_end (t ∷ ts)) (pieces 0 ts)) (in_piece t (pieces (depth_behind depth t) ts))
unfolding pieces
at_token depth t ts ends is = ap (λ (z : Bool). cond z (piece_end (is_byte 44 t) (is_end (t ∷ ts)) (pieces 0 ts))
    (in_piece t (pieces (depth_behind depth t) ts))) is

first_of : (a b : Bool) → (a && b) ≡ true → a ≡ true
first_of true b e = refl
first_of false b e = absurd cc

no_depth : (depth : ℕ) (t : Token) → ends_piece depth t ≡ true → depth ≡ 0
no_depth depth t e = eqb-true depth 0 (first_of (eqb depth 0) (is_byte 44 t || closes t) e)

module _ (ts : List Token) (done : List NodeField) (start at depth : ℕ) (d : Token) where
  -- the tokens of the piece that is being read
  abbrev front : List Token
  front = take (at - start) (drop start ts)

  -- the token at the place
  abbrev here : Token
  here = get_or ts at d

  at_place : (ends : Bool) → at < length ts → ends_piece depth here ≡ ends
      → pieces depth (drop at ts) ≡ cond ends (piece_end (is_byte 44 here) (is_end (here ∷ drop (at + 1) ts)) (pieces 0 (drop (at + 1) ts)))
      (in_piece here (pieces (depth_behind depth here) (drop (at + 1) ts)))
  at_place ends lt is = ap (pieces depth) (drop_more ts at d lt) ∙ at_token depth here (drop (at + 1) ts) ends is

  read_so_far : (ends : Bool) → at < length ts → ends_piece depth here ≡ ends → gathered done front (pieces depth (drop at ts)) ≡ all_fields (pieces 0 ts)
      → gathered done front (cond ends (piece_end (is_byte 44 here) (is_end (here ∷ drop (at + 1) ts)) (pieces 0 (drop (at + 1) ts)))
      (in_piece here (pieces (depth_behind depth here) (drop (at + 1) ts)))) ≡ all_fields (pieces 0 ts)
  read_so_far ends lt is read = ap (gathered done front) (sym (at_place ends lt is)) ∙ read

  not_end : is_end ts ≡ false → fields_of ts ≡ all_fields (pieces 0 ts)
  not_end more = rw more refl

  -- a piece that is no field
  pub unreadable : is_end ts ≡ false → at < length ts → ends_piece depth here ≡ true → None ≡ field_of front →
      gathered done front (pieces depth (drop at ts)) ≡ all_fields (pieces 0 ts) → None ≡ fields_of ts
  unreadable more lt is none read =
      sym (no_field done front (is_byte 44 here) (is_end (here ∷ drop (at + 1) ts)) (pieces 0 (drop (at + 1) ts)) none) ∙ read_so_far true lt is read
      ∙ sym (not_end more)

  -- the last piece
  pub closed : (f : NodeField) → is_end ts ≡ false → at < length ts → ends_piece depth here ≡ true → is_byte 44 here ≡ false → Some f ≡ field_of front
      → gathered done front (pieces depth (drop at ts)) ≡ all_fields (pieces 0 ts) → ended (done ++ f ∷ []) (take (length ts - at) (drop at ts)) ≡ fields_of ts
  closed f more lt is no_comma field read =
      let rest : take (length ts - at) (drop at ts) ≡ here ∷ drop (at + 1) ts = take_rest ts at ∙ drop_more ts at d lt in
      let last = is_end (here ∷ drop (at + 1) ts) in
      let piece = pieces 0 (drop (at + 1) ts) in
      ap (ended (done ++ f ∷ [])) rest ∙ sym (last_field done front f last piece field)
      ∙ ap (λ (z : Bool). gathered done front (piece_end z last piece)) (sym no_comma) ∙ read_so_far true lt is read ∙ sym (not_end more)

  -- a comma behind a field
  pub next_field : (f : NodeField) → at < length ts → ends_piece depth here ≡ true → is_byte 44 here ≡ true → Some f ≡ field_of front
      → gathered done front (pieces depth (drop at ts)) ≡ all_fields (pieces 0 ts)
      → gathered (done ++ f ∷ []) (take (at + 1 - (at + 1)) (drop (at + 1) ts)) (pieces depth (drop (at + 1) ts)) ≡ all_fields (pieces 0 ts)
  next_field f lt is comma field read =
      let rest = pieces 0 (drop (at + 1) ts) in
      let empty : at + 1 - (at + 1) ≡ 0 = omega arith in
      rw (empty, no_depth depth here is) (sym (gathered-new_piece done front f rest field)
      ∙ ap (λ (z : Bool). gathered done front (piece_end z (is_end (here ∷ drop (at + 1) ts)) rest)) (sym comma) ∙ read_so_far true lt is read)

  -- a token inside a piece
  pub goes_on : start ≤ at → at < length ts → ends_piece depth here ≡ false → gathered done front (pieces depth (drop at ts)) ≡ all_fields (pieces 0 ts)
      → gathered done (take (at + 1 - start) (drop start ts)) (pieces (depth_behind depth here) (drop (at + 1) ts)) ≡ all_fields (pieces 0 ts)
  goes_on started lt is read =
      let rest = pieces (depth_behind depth here) (drop (at + 1) ts) in
      let longer : at + 1 - start ≡ at - start + 1 = omega arith in
      let within : at - start < length (drop start ts) = omega (arith, length-drop start ts) in
      let place : start + (at - start) ≡ at = omega arith in
      let more : take (at + 1 - start) (drop start ts) ≡ front ++ here ∷ [] =
      ap (λ (n : ℕ). take n (drop start ts)) longer ∙ take_more (drop start ts) (at - start) d within
      ∙ ap (λ (x : Token). front ++ x ∷ []) (get_or-drop start ts (at - start) d ∙ ap (λ (n : ℕ). get_or ts n d) place) in
      ap (λ (x : List Token). gathered done x rest) more ∙ ap (λ (r : Option (List (List Token))). behind done (all_fields r))
      (sym (with_front-in_piece front here rest)) ∙ read_so_far false lt is read

  -- no bracket ends the tokens
  pub never_closed : is_end ts ≡ false → length ts ≤ at → gathered done front (pieces depth (drop at ts)) ≡ all_fields (pieces 0 ts) → None ≡ fields_of ts
  unfolding pieces
  never_closed more all read = ap (λ (r : List Token). gathered done front (pieces depth r)) (sym (drop_all at ts all)) ∙ read ∙ sym (not_end more)
