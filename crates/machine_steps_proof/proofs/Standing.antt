-- What stands in an image at the address of an item: its words, and its lines.
use Rattle.std.proofs.Common.{◌≡◌, ℕ, zero, suc, ◌+◌, ◌*◌, ◌<◌, ◌≤◌, ◌^◌, List, [], ◌∷◌, ◌++◌, drop, map, length, slice_get, append_assoc}
use Rattle.std.proofs.Common.{Option, Some, None, Bool}
use Rattle.std.proofs.Common.{cond, IsSome, refl, sym, ap, ◌∙◌, subst, ne_eqb, arith}
use Rattle.std.specs.List.{flat_map}
use Rattle.std.specs.Int.{w32, to_le_bytes}
use Rattle.std.proofs.lemmas.List.{drop-drop}
use Rattle.rv64_instr.specs.Instruction.{Instruction}
use Rattle.rv64_instr.specs.Row.{row_of}
use Rattle.rv64_word.specs.declared.machine_op.MachineOp.{MachineOp}
use Rattle.rv64_word.specs.MachineOp.{word_of, value_of}
use Rattle.rv64_word.specs.Operation.{encoding_of}
use Rattle.rv64_word.proofs.Reading.{spelled_below}
use Rattle.mir_func.specs.declared.item.ItemKind.{ItemKind}
use Rattle.mir_func.specs.declared.item.ItemKind.TheVariants.{Code, Mark, Phi}
use Rattle.mir_func.specs.declared.position.Origin.{Origin}
use Rattle.mir_func.specs.Graph.{Here}
use Rattle.sem_machine.specs.Image.{CodeLine, Image, line_at, word_at}
use Rattle.sem_machine.proofs.Fetching.{word_here}
use Rattle.emit_code.specs.Listed.{Line, form_lines, kind_lines, lines_at}
use Rattle.emit_code.specs.Rule.{Layout, Form, Nothing, OneWord, CallSite, LongBranch, form_of, form_size, size_of, address_in, operation_at, skip_operation}
use Rattle.emit_code.specs.Rule.{jump_operation}
use Rattle.emit_code.specs.Rule.{word_if, site_words, form_words, kind_words, words_at, Site, sites_of}
use Rattle.emit_code.specs.Laid.{FormWorded}
use Rattle.emit_code.proofs.Stand.{site_length}
use Rattle.machine_steps_proof.specs.Laid.{fetched}
use Rattle.machine_steps_proof.specs.Images.{code_line, HasAllWords, IsImageOf}
use Rattle.machine_steps_proof.proofs.Addresses.{Chained, chained}

-- an operation's word has 32 bits
pub word_below : (m : MachineOp) → word_of m < 2 ^ 32
unfolding word_of
word_below m = spelled_below (encoding_of m.op).format (value_of m)

abbrev pub bytes : List ℕ → List ℕ
bytes ws = flat_map (to_le_bytes w32) ws

-- past the bytes of words
bytes_past : (ws more rest : List ℕ) → drop (4 * length ws) (bytes (ws ++ more) ++ rest) ≡ bytes more ++ rest
bytes_past [] more rest = drop_zero (bytes more ++ rest) where
  drop_zero : (xs : List ℕ) → drop 0 xs ≡ xs
  drop_zero [] = refl
  drop_zero (x ∷ xs) = refl
bytes_past (w ∷ ws) more rest =
    let k : 4 * suc (length ws) ≡ 4 + 4 * length ws = omega arith in
    ap (λ (n : ℕ). drop n (bytes (w ∷ (ws ++ more)) ++ rest)) k ∙ sym (drop-drop (4 * length ws) 4 (bytes (w ∷ (ws ++ more)) ++ rest)) ∙ bytes_past ws more rest

-- lines that don't stand at an address
line_past : (ls more : List CodeLine) (x : ℕ) → ((k : ℕ) (l : CodeLine) → slice_get ls k ≡ Some l → l.address ≡ x → ⊥) → line_at (ls ++ more) x ≡ line_at more x
line_past [] more x h = refl
line_past (l ∷ ls) more x h = ap (λ (b : Bool). cond b (Some l) (line_at (ls ++ more) x)) (ne_eqb l.address x (h 0 l refl))
    ∙ line_past ls more x (λ k m e. h (suc k) m e)

map_append : (xs ys : List Line) → map code_line (xs ++ ys) ≡ map code_line xs ++ map code_line ys
map_append [] ys = refl
map_append (x ∷ xs) ys = ap (λ (zs : List CodeLine). code_line x ∷ zs) (map_append xs ys)

module _ (l : Layout) (image : Image) (has : HasAllWords l) where
  -- what stands from the address of a site on
  pub record AtSite (s : Site) : Type 0 where
    pub more : List ℕ
    pub text : drop (address_in l s.point) image.text ≡ bytes (words_at l s) ++ more
    pub others : List CodeLine
    pub lines : (x : ℕ) → address_in l s.point ≤ x → line_at image.lines x ≡ line_at (map code_line (lines_at l s) ++ others) x

  -- and from an address on, with the sites that are left
  record From (a : ℕ) (ss : List Site) : Type 0 where
    more : List ℕ
    text : drop a image.text ≡ bytes (flat_map (words_at l) ss) ++ more
    lines : (x : ℕ) → a ≤ x → line_at image.lines x ≡ line_at (map code_line (flat_map (lines_at l) ss)) x

  bytes_append : (xs ys : List ℕ) → bytes (xs ++ ys) ≡ bytes xs ++ bytes ys
  bytes_append [] ys = refl
  bytes_append (x ∷ xs) ys = ap (λ (zs : List ℕ). to_le_bytes w32 x ++ zs) (bytes_append xs ys) ∙ sym (append_assoc (to_le_bytes w32 x) (bytes xs) (bytes ys))

  here : (s : Site) (ss : List Site) → From (address_in l s.point) (s ∷ ss) → AtSite s
  here s ss h = record {
    more = bytes (flat_map (words_at l) ss) ++ h.more;
    text = h.text ∙ ap (λ (zs : List ℕ). zs ++ h.more) (bytes_append (words_at l s) (flat_map (words_at l) ss))
        ∙ append_assoc (bytes (words_at l s)) (bytes (flat_map (words_at l) ss)) h.more;
    others = map code_line (flat_map (lines_at l) ss);
    lines = λ x le. h.lines x le ∙ ap (λ (zs : List CodeLine). line_at zs x) (map_append (lines_at l s) (flat_map (lines_at l) ss));
  }

  -- a site has as many words as its size says, and its lines lie within
  record IsSized (s : Site) : Type 0 where
    words : 4 * length (words_at l s) ≡ size_of (l.long s.point) s.item
    lines : (k : ℕ) (x : CodeLine) → slice_get (map code_line (lines_at l s)) k ≡ Some x → x.address < address_in l s.point + size_of (l.long s.point) s.item

  one_word : (o : Option MachineOp) → IsSome o → length (word_if o) ≡ 1
  one_word None h = cc
  one_word (Some m) h = refl

  length_append : (xs ys : List ℕ) → length (xs ++ ys) ≡ length xs + length ys
  length_append [] ys = let k : length ys ≡ 0 + length ys = omega arith in k
  length_append (x ∷ xs) ys = let k = length_append xs ys in let q : suc (length (xs ++ ys)) ≡ suc (length xs) + length ys = omega (arith, k) in q

  one_line : (a b : CodeLine) → Some a ≡ Some b → a.address ≡ b.address
  one_line a b e = let same : a ≡ b = cc in ap (λ (z : CodeLine). z.address) same

  form_sized : (a : ℕ) (c : Instruction) (o : Origin) (x : Form) → FormWorded l a c x →
      (4 * length (form_words l a c x) ≡ form_size x) ×
      ((k : ℕ) (y : CodeLine) → slice_get (map code_line (form_lines l.framed a o c x)) k ≡ Some y → y.address < a + form_size x)
  form_sized a c o Nothing h = (refl, λ k y e. cc)
  form_sized a c o OneWord h = (
    (let k = one_word (operation_at l a c) h in let q : 4 * length (word_if (operation_at l a c)) ≡ 4 = omega (arith, k) in q),
    by_index,
  ) where
    by_index : (k : ℕ) (y : CodeLine) → slice_get (map code_line (form_lines l.framed a o c OneWord)) k ≡ Some y → y.address < a + 4
    by_index zero y e = let q = one_line _ y e in omega (arith, q)
    by_index (suc k) y e = cc
  form_sized a c o CallSite h = (
    (let two = site_length (row_of c) in let q : 4 * length (site_words (row_of c)) ≡ 8 = omega (arith, two) in q),
    by_index,
  ) where
    by_index : (k : ℕ) (y : CodeLine) → slice_get (map code_line (form_lines l.framed a o c CallSite)) k ≡ Some y → y.address < a + 8
    by_index zero y e = let q = one_line _ y e in omega (arith, q)
    by_index (suc k) y e = cc
  form_sized a c o (LongBranch n) h = (
    (let j = one_word (skip_operation c) h.0 in
        let k = one_word (jump_operation l a n) h.1 in
        let w = length_append (word_if (skip_operation c)) (word_if (jump_operation l a n)) in
        let q : 4 * length (word_if (skip_operation c) ++ word_if (jump_operation l a n)) ≡ 8 = omega (arith, j, k, w) in q),
    by_index,
  ) where
    by_index : (k : ℕ) (y : CodeLine) → slice_get (map code_line (form_lines l.framed a o c (LongBranch n))) k ≡ Some y → y.address < a + 8
    by_index zero y e = let q = one_line _ y e in omega (arith, q)
    by_index (suc zero) y e = let q = one_line _ y e in omega (arith, q)
    by_index (suc (suc k)) y e = cc

  sized : (s : Site) → fetched l.framed s.point ≡ Here s.item → IsSized s
  sized s e = by_kind s.item.kind refl where
    by_kind : (k : ItemKind) → s.item.kind ≡ k → IsSized s
    by_kind (Code c n) ek =
        let a = address_in l s.point in
        let f = form_sized a c s.item.origin (form_of (l.long s.point) (Code c n)) (has.words s.point s.item c n e ek) in
        record {
          words = ap (λ (k : ItemKind). 4 * length (kind_words l s.point k)) ek ∙ f.0 ∙ ap (λ (k : ItemKind). form_size (form_of (l.long s.point) k)) (sym ek);
          lines = λ k y g. subst (λ (z : ItemKind). y.address < a + form_size (form_of (l.long s.point) z)) (sym ek)
              (f.1 k y (ap (λ (z : ItemKind). slice_get (map code_line (kind_lines l s z)) k) (sym ek) ∙ g));
        }
    by_kind (Mark v m) ek = record {
      words = ap (λ (k : ItemKind). 4 * length (kind_words l s.point k)) ek ∙ ap (λ (k : ItemKind). form_size (form_of (l.long s.point) k)) (sym ek);
      lines = λ k y g. (let bad : None ≡ Some y = ap (λ (z : ItemKind). slice_get (map code_line (kind_lines l s z)) k) (sym ek) ∙ g in cc);
    }
    by_kind (Phi p m) ek = record {
      words = ap (λ (k : ItemKind). 4 * length (kind_words l s.point k)) ek ∙ ap (λ (k : ItemKind). form_size (form_of (l.long s.point) k)) (sym ek);
      lines = λ k y g. (let bad : None ≡ Some y = ap (λ (z : ItemKind). slice_get (map code_line (kind_lines l s z)) k) (sym ek) ∙ g in cc);
    }

  past : (s : Site) (ss : List Site) → fetched l.framed s.point ≡ Here s.item → From (address_in l s.point) (s ∷ ss) →
      From (address_in l s.point + size_of (l.long s.point) s.item) ss
  past s ss e h =
      let z = sized s e in
      let a = address_in l s.point in
      record {
        more = h.more;
        text = ap (λ (n : ℕ). drop (a + n) image.text) (sym z.words) ∙ sym (drop-drop (4 * length (words_at l s)) a image.text)
            ∙ ap (drop (4 * length (words_at l s))) h.text ∙ bytes_past (words_at l s) (flat_map (words_at l) ss) h.more;
        lines = λ x le. h.lines x (omega (arith, le)) ∙ ap (λ (zs : List CodeLine). line_at zs x) (map_append (lines_at l s) (flat_map (lines_at l) ss))
            ∙ line_past (map code_line (lines_at l s)) (map code_line (flat_map (lines_at l) ss)) x
            (λ k y g q. (let lt = z.lines k y g in omega (arith, lt, q, le)));
      }

  -- each site is one of the function
  abbrev AreOf : List Site → Type 0
  AreOf ss = (k : ℕ) (s : Site) → slice_get ss k ≡ Some s → fetched l.framed s.point ≡ Here s.item

  at_index : (ss : List Site) (a : ℕ) → Chained l a ss → AreOf ss → From a ss → (k : ℕ) (s : Site) → slice_get ss k ≡ Some s → AtSite s
  at_index [] a ch of h k s e = cc
  at_index (x ∷ ss) a ch of h zero s e =
      let same : x ≡ s = cc in
      subst AtSite same (here x ss (subst (λ (n : ℕ). From n (x ∷ ss)) (sym ch.0) h))
  at_index (x ∷ ss) a ch of h (suc k) s e =
      at_index ss (a + size_of (l.long x.point) x.item) ch.1 (λ j y g. of (suc j) y g)
      (subst (λ (n : ℕ). From (n + size_of (l.long x.point) x.item) ss) ch.0
      (past x ss (of 0 x refl) (subst (λ (n : ℕ). From n (x ∷ ss)) (sym ch.0) h))) k s e

  module _ (is : IsImageOf l image) (all : AreOf (sites_of l.framed)) where
    pub at_site : (k : ℕ) (s : Site) → slice_get (sites_of l.framed) k ≡ Some s → AtSite s
    at_site = at_index (sites_of l.framed) l.base (chained l) all
        (record { more = is.more; text = is.text; lines = λ x le. ap (λ (zs : List CodeLine). line_at zs x) is.lines })

  -- the word at an address
  pub word_at_is : (a w : ℕ) (rest : List ℕ) → w < 2 ^ 32 → drop a image.text ≡ to_le_bytes w32 w ++ rest → word_at image.text a ≡ Some w
  word_at_is a w rest small e = word_here image.text rest a w small e
