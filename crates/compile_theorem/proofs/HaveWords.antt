-- The bytes of `.text` at the lines of what is compiled: site by site, an item's lines have the bytes of its words.
use Rattle.std.proofs.Common.{◌≡◌, ℕ, suc, ◌+◌, pos, Bool, true, false, List, [], ◌∷◌, ◌++◌, take, drop, length, Option, Some, None, IsSome, refl, ap, sym, ◌∙◌}
use Rattle.std.proofs.Common.{subst, arith, append_assoc, length-append, ◌⊎◌, inl, inr}
use Rattle.std.specs.Prelude.{All, slice_get, Contains}
use Rattle.std.specs.List.{flat_map}
use Rattle.std.specs.Int.{w32, to_le_bytes}
use Rattle.std.proofs.lemmas.Grind.{flat_map-append}
use Rattle.std.proofs.lemmas.List.Elements.{All-nil, All-cons, All-append}
use Rattle.rv64_instr.specs.declared.op.Op.{Op}
use Rattle.rv64_instr.specs.declared.op.Op.TheVariants.{Branch, PseudoCall, PseudoTail, NoReturnCall}
use Rattle.rv64_instr.specs.declared.op.BranchOp.{BranchOp}
use Rattle.rv64_instr.specs.declared.operand.Operand.{Operand}
use Rattle.rv64_instr.specs.declared.operand.Operand.TheVariants.{Use, Block as OfBlock, Symbol, Slot, Object, Imm}
use Rattle.rv64_instr.specs.Instruction.{Instruction}
use Rattle.rv64_instr.specs.Row.{row_of, row_by, Row, Returns, Callee, Way, Back, Tail, Never}
use Rattle.rv64_instr.specs.LocationEffects.{has_site}
use Rattle.rv64_instr.specs.Inverse.{inverse}
use Rattle.rv64_word.specs.declared.machine_op.MachineOp.{MachineOp}
use Rattle.rv64_word.specs.declared.word_op.WordOp.TheVariants.{Branch as BranchWord}
use Rattle.rv64_word.specs.Lowering.{in_range, machine_op}
use Rattle.rv64_word.specs.MachineOp.{word_of}
use Rattle.mir_func.specs.declared.block.Block.{Block}
use Rattle.mir_func.specs.declared.debug_substitution.DebugSubstitution.{DebugSubstitution}
use Rattle.mir_func.specs.declared.exit.Exit.{Exit}
use Rattle.mir_func.specs.declared.exit.Exit.TheVariants.{Onward, Perhaps, Always, Final}
use Rattle.mir_func.specs.declared.item.Item.{Item}
use Rattle.mir_func.specs.declared.item.ItemKind.{ItemKind}
use Rattle.mir_func.specs.declared.item.ItemKind.TheVariants.{Code, Mark, Phi}
use Rattle.mir_func.specs.Exits.{row_exit}
use Rattle.mir_func.specs.Graph.{Here}
use Rattle.mir_func.specs.Sound.{AllItems, ids_of, TargetIn, TargetsIn, HasForm}
use Rattle.mir_func.specs.SoundFrame.{body_of, IsFramed}
use Rattle.mir_func.specs.Successors.{pos_in}
use Rattle.emit_code.specs.LongBranch.{jump_to}
use Rattle.emit_code.specs.Laid.{IsWorded, FormWorded}
use Rattle.emit_code.specs.Listed.{listed, by_pointer}
use Rattle.emit_code.specs.Rule.{Layout, Site, Form, form_of, form_size, size_of, row_form, address_in, offset_to, operation_at, skip_operation}
use Rattle.emit_code.specs.Rule.{jump_operation, word_if, form_words, kind_words, words_at, words_of, sites_in, sites_from, sites_of, start_of}
use Rattle.emit_code.specs.Rule.{added_before, site_words, way_words}
use Rattle.emit_code.specs.steps.Emitted.{IsFormed}
use Rattle.emit_code.proofs.Settled as settled
use Rattle.emit_code.proofs.Stand.{site_length}
use Rattle.listing_meaning.specs.machine_steps_proof.Laid.{fetched}
use Rattle.listing_meaning.proofs.machine_steps_proof.Points.{of_item}
use Rattle.listing_meaning.proofs.machine_steps_proof.Addresses.{Chained, chained}
use Rattle.dwarf_loclists.specs.declared.range.Range.{Range}
use Rattle.dwarf_loclists.specs.Grammar.{IsSection}
use Rattle.listing_text.specs.declared.output.Line.{Line}
use Rattle.listing_text.specs.declared.output.Line.TheVariants.{Item as OfItem, Skip}
use Rattle.listing_text.specs.declared.output.ListedBlock.{ListedBlock}
use Rattle.listing_text.specs.declared.output.ListedFunction.{ListedFunction}
use Rattle.listing_text.specs.declared.output.ListedVariable.{ListedVariable}
use Rattle.listing_text.specs.declared.output.Output.{Output}
use Rattle.listing_meaning.specs.Listing.{branch_skip, line_at, form_lines, kind_lines, site_lines, items_listed, blocks_listed, listing_of}
use Rattle.listing_meaning.specs.Listing.{implicits}
use Rattle.listing_meaning.specs.Program.{lines_of}
use Rattle.listing_meaning.proofs.Forms.{FormView, one, call, long, viewed}
use Rattle.listing_meaning.proofs.Framing.{blocks_whole}
use Rattle.listing_meaning.proofs.Sizes.{is_call_form, calls_listed}
use Rattle.compile_theorem.specs.Laws.{CompiledHasWords}
use Rattle.compile_theorem.specs.OutputProperties.{variable_lines}
use Rattle.compile_theorem.specs.Source.{PassedFunction, IsPassedFunction}
use Rattle.dwarf_unit.specs.Variables.{variables_of_function}
use Rattle.compile_theorem.specs.Words.{target_of, IsOffset, bytes_at, HasBytes, HasSkip, HaveWordsOf}
use Rattle.compile_theorem.proofs.Addresses.{start_shown}
use Rattle.compile_theorem.proofs.Functions.{IsCompiledIn, drop_all, drop_more, words_length}
use Rattle.compile_theorem.proofs.Telling.{all_at}
use Rattle.compile_theorem.proofs.Headline.{formed}
use Rattle.compile_theorem.proofs.IsExact.{for_each}
use Rattle.compile_theorem.proofs.LaidOut.{framed}
use Rattle.compile_theorem.proofs.Lowering.{lowered_listed, exit_listed, ExitIn, exit_in, there_and_back, is_itself}

abbrev bytes : List ℕ → List ℕ
bytes ws = flat_map (to_le_bytes w32) ws

some_length : (o : Option MachineOp) → IsSome o → length (word_if o) ≡ 1
some_length None some = cc
some_length (Some m) some = refl

module _ (all : List ℕ) where
  -- where the bytes of a word stand
  record Stands (a : ℕ) (o : Option MachineOp) : Type 0 where
    operation : MachineOp
    is : o ≡ Some operation
    bytes : bytes_at all 4 a ≡ to_le_bytes w32 (word_of operation)

  one_stands : (a : ℕ) (o : Option MachineOp) (rest : List ℕ) → IsSome o → drop a all ≡ bytes (word_if o) ++ rest → Stands a o
  one_stands a None rest some text = cc
  one_stands a (Some m) rest some text = record { operation = m; is = refl; bytes = ap (take 4) text }

  first_stands : (a : ℕ) (o : Option MachineOp) (ws rest : List ℕ) → IsSome o → drop a all ≡ bytes (word_if o ++ ws) ++ rest → Stands a o
  first_stands a None ws rest some text = cc
  first_stands a (Some m) ws rest some text = record { operation = m; is = refl; bytes = ap (take 4) text }

  second_text : (a : ℕ) (o : Option MachineOp) (ws rest : List ℕ) → IsSome o → drop a all ≡ bytes (word_if o ++ ws) ++ rest → drop (a + 4) all ≡ bytes ws ++
      rest
  second_text a None ws rest some text = cc
  second_text a (Some m) ws rest some text = drop_more a 4 all ∙ ap (drop 4) text

module _ (l : Layout) (variables : List ListedVariable) (substitutions : List DebugSubstitution) (all : List ℕ) (forms : AllItems IsFormed l.framed.blocks)
    (targets : AllItems (λ i. TargetsIn (ids_of (body_of l.framed.blocks)) i.kind) l.framed.blocks) (worded : IsWorded l) where
  abbrev f : ListedFunction
  f = listing_of l variables substitutions

  abbrev ids : List ℕ
  ids = ids_of (body_of l.framed.blocks)

  -- the line's bytes stand at it
  abbrev pub HasItsBytes : Line → Type 0
  HasItsBytes (OfItem x) = (a : ℕ) (i : Instruction) (k : Option ℕ) → x.address ≡ Some a → x.item.kind ≡ Code i k → HasBytes (has_site (row_of i)) all f a i
  HasItsBytes (Skip s) = HasSkip all s

  item_has : (at : ℕ) (i : Item) (c : Instruction) (k : Option ℕ) → HasBytes (has_site (row_of c)) all f at c → HasItsBytes (line_at (Some at) i (Code c k))
  item_has at i c k has = λ a j m begins kind.
      let address : at ≡ a = cc in
      let code : c ≡ j = cc in
      subst (λ (d : Instruction). HasBytes (has_site (row_of d)) all f a d) code
      (subst (λ (n : ℕ). HasBytes (has_site (row_of c)) all f n c) address has)

  aimed : (x : Exit) (a : ℕ) → ExitIn ids x → IsOffset f (target_of x) a (offset_to l a x)
  aimed Onward a is = refl
  aimed (Perhaps n) a is = (start_of l n, start_shown l variables substitutions n forms is, there_and_back a (start_of l n))
  aimed (Always n) a is = (start_of l n, start_shown l variables substitutions n forms is, there_and_back a (start_of l n))
  aimed Final a is = refl

  -- ---- forms

  one_has : (a : ℕ) (c : Instruction) (rest : List ℕ) → HasForm (Code c None) → TargetIn ids (row_of c) → has_site (row_of (listed l.framed c)) ≡ false →
      IsSome (operation_at l a c) → drop a all ≡ bytes (word_if (operation_at l a c)) ++ rest →
      HasBytes (has_site (row_of (listed l.framed c))) all f a (listed l.framed c)
  one_has a c rest form target calls some text =
      let s = one_stands all a (operation_at l a c) rest some text in
      let offset = offset_to l a (row_exit (row_of c)) in
      subst (λ (b : Bool). HasBytes b all f a (listed l.framed c)) (sym calls) (
        offset,
        subst (λ (x : Exit). IsOffset f (target_of x) a offset) (sym (exit_listed l.framed c form)) (aimed (row_exit (row_of c)) a (exit_in ids
            (row_of c) target)),
        record { operation = s.operation; lowered = lowered_listed l.framed offset c form ∙ s.is; stands = s.bytes },
      )

  -- the words of a site are those of the code as it is listed
  words_listed : (c : Instruction) (name : List ℕ) (os : List Operand) → c.operands ≡ Symbol name ∷ os →
      (c.op ≡ PseudoCall) ⊎ ((c.op ≡ PseudoTail) ⊎ (c.op ≡ NoReturnCall)) → site_words (row_of c) ≡ site_words (row_of (listed l.framed c))
  words_listed c name os os_is op_is = by_op c.op c.operands os_is op_is where
    by_op : (op : Op) (ps : List Operand) → ps ≡ Symbol name ∷ os → (op ≡ PseudoCall) ⊎ ((op ≡ PseudoTail) ⊎ (op ≡ NoReturnCall)) →
        site_words (row_by op ps) ≡ site_words (row_by op (by_pointer l.framed ps))
    by_op PseudoCall (Symbol n ∷ Slot m ∷ Imm i ∷ rest) e h = refl
    by_op PseudoCall (Symbol n ∷ Object m ∷ Imm i ∷ rest) e h = refl
    by_op PseudoCall (Symbol n ∷ rest) e h = refl
    by_op PseudoTail (Symbol n ∷ Slot m ∷ Imm i ∷ rest) e h = refl
    by_op PseudoTail (Symbol n ∷ Object m ∷ Imm i ∷ rest) e h = refl
    by_op PseudoTail (Symbol n ∷ rest) e h = refl
    by_op NoReturnCall (Symbol n ∷ Slot m ∷ Imm i ∷ rest) e h = refl
    by_op NoReturnCall (Symbol n ∷ Object m ∷ Imm i ∷ rest) e h = refl
    by_op NoReturnCall (Symbol n ∷ rest) e h = refl
    by_op op ps e (inl h) = cc
    by_op op ps e (inr (inl h)) = cc
    by_op op ps e (inr (inr h)) = cc

  -- and there are two of them
  eight : (a : ℕ) (r : Row) (rest : List ℕ) → drop a all ≡ bytes (site_words r) ++ rest → bytes_at all 8 a ≡ bytes (site_words r)
  eight a (Returns ending) rest text = by_way ending.way text where
    by_way : (w : Way Callee) → drop a all ≡ bytes (way_words w) ++ rest → bytes_at all 8 a ≡ bytes (way_words w)
    by_way Back text = ap (take 8) text
    by_way (Tail callee) text = ap (take 8) text
    by_way (Never callee) text = ap (take 8) text
  eight a _ rest text = ap (take 8) text

  call_has : (a : ℕ) (c : Instruction) (rest : List ℕ) → has_site (row_of (listed l.framed c)) ≡ true →
      site_words (row_of c) ≡ site_words (row_of (listed l.framed c)) → drop a all ≡ bytes (site_words (row_of c)) ++ rest →
      HasBytes (has_site (row_of (listed l.framed c))) all f a (listed l.framed c)
  call_has a c rest calls same text = subst (λ (b : Bool). HasBytes b all f a (listed l.framed c)) (sym calls)
      (eight a (row_of (listed l.framed c)) rest (text ∙ ap (λ (ws : List ℕ). bytes ws ++ rest) same))

  jump_has : (a n : ℕ) (rest : List ℕ) → Contains ids n → IsSome (operation_at l a (jump_to n)) →
      drop a all ≡ bytes (word_if (operation_at l a (jump_to n))) ++ rest → HasBytes false all f a (jump_to n)
  jump_has a n rest target some text =
      let s = one_stands all a (operation_at l a (jump_to n)) rest some text in
      (offset_to l a (Always n), aimed (Always n) a target, record { operation = s.operation; lowered = s.is; stands = s.bytes })

  abbrev LongHas : (a : ℕ) (i : Item) (k : Option ℕ) (n : ℕ) (rest : List ℕ) → Op → List Operand → Type 0
  LongHas a i k n rest op os = IsSome (skip_operation (record { op = op; operands = os; volatile = false })) → IsSome (jump_operation l a n) → TargetIn ids (row_by op os) →
      drop a all ≡ bytes (word_if (skip_operation (record { op = op; operands = os; volatile = false })) ++ word_if (jump_operation l a n)) ++ rest →
      All HasItsBytes (branch_skip a i.origin op os ++ line_at (Some (a + 4)) i (Code (jump_to n) k) ∷ [])

  long_has : (a : ℕ) (i : Item) (k : Option ℕ) (rest : List ℕ) (b : BranchOp) (x y n : ℕ) (os : List Operand) →
      LongHas a i k n rest (Branch b) (Use x ∷ Use y ∷ OfBlock n ∷ os)
  long_has a i k rest b x y n os skips jumps target text =
      let m : MachineOp = machine_op (BranchWord (inverse b)) 0 x y (pos 8) in
      let s = first_stands all a (in_range m) (word_if (jump_operation l a n)) rest skips text in
      let itself = is_itself m skips in
      let both : Some s.operation ≡ Some m = sym s.is ∙ itself in
      let same : s.operation ≡ m = cc in
      let skip_line : Line = Skip (record {
        address = a;
        origin = added_before i.origin;
        op = inverse b;
        first = x;
        second = y;
        implicit = implicits os;
      }) in
      let jump_line : Line = line_at (Some (a + 4)) i (Code (jump_to n) k) in
      All-cons HasItsBytes skip_line (jump_line ∷ []) (itself, s.bytes ∙ ap (λ (q : MachineOp). to_le_bytes w32 (word_of q)) same)
      (All-cons HasItsBytes jump_line []
      (item_has (a + 4) i (jump_to n) k
      (jump_has (a + 4) n rest target jumps (second_text all a (in_range m) (word_if (jump_operation l a n)) rest skips text)))
      (All-nil HasItsBytes))

  form_has : (a : ℕ) (i : Item) (c : Instruction) (k : Option ℕ) (rest : List ℕ) (g : Form) → FormView c.op c.operands g → HasForm (Code c None) →
      TargetIn ids (row_of c) → has_site (row_of (listed l.framed c)) ≡ is_call_form g → FormWorded l a c g → drop a all ≡ bytes (form_words l a c g) ++ rest →
      All HasItsBytes (form_lines l a i c k g)
  form_has a i c k rest g one form target calls some text =
      All-cons HasItsBytes (line_at (Some a) i (Code (listed l.framed c) k)) []
      (item_has a i (listed l.framed c) k (one_has a c rest form target calls some text)) (All-nil HasItsBytes)
  form_has a i c k rest g (call name os os_is op_is) form target calls some text =
      All-cons HasItsBytes (line_at (Some a) i (Code (listed l.framed c) k)) []
      (item_has a i (listed l.framed c) k (call_has a c rest calls (words_listed c name os os_is op_is) text)) (All-nil HasItsBytes)
  form_has a i c k rest g (long b x y n os op_is os_is implicit) form target calls some text =
      let has = subst (λ (op : Op). LongHas a i k n rest op c.operands) (sym op_is)
      (subst (λ (ps : List Operand). LongHas a i k n rest (Branch b) ps) (sym os_is) (long_has a i k rest b x y n os)) in
      has some.0 some.1 target text

  form_bytes : (a : ℕ) (c : Instruction) (g : Form) → FormView c.op c.operands g → FormWorded l a c g → length (bytes (form_words l a c g)) ≡ form_size g
  form_bytes a c g one some = words_length (word_if (operation_at l a c)) ∙ (let size = some_length (operation_at l a c) some in omega (arith, size))
  form_bytes a c g (call name os os_is op_is) some =
      words_length (site_words (row_of c)) ∙ (let two = site_length (row_of c) in omega (arith, two))
  form_bytes a c g (long b x y n os op_is os_is implicit) some =
      words_length (word_if (skip_operation c) ++ word_if (jump_operation l a n)) ∙
      (let first = some_length (skip_operation c) some.0 in
      let second = some_length (jump_operation l a n) some.1 in
      let sum = length-append (word_if (skip_operation c)) (word_if (jump_operation l a n)) in
      omega (arith, first, second, sum))

  -- ---- items

  record ItemHas (s : Site) (k : ItemKind) : Type 0 where
    lines : All HasItsBytes (kind_lines l s k)
    size : length (bytes (kind_words l s.point k)) ≡ form_size (form_of (l.long s.point) k)

  kind_has : (s : Site) (rest : List ℕ) (k : ItemKind) → s.item.kind ≡ k → HasForm k → TargetsIn ids k → fetched l.framed s.point ≡ Here s.item →
      drop (address_in l s.point) all ≡ bytes (kind_words l s.point k) ++ rest → ItemHas s k
  kind_has s rest (Code c n) is form target here text =
      let a = address_in l s.point in
      let view = viewed (l.long s.point) c.op c.operands form in
      let some = worded s.point s.item c n here is in
      record {
        lines = form_has a s.item c n rest (row_form (l.long s.point) (row_of c)) view form target (calls_listed l.framed (l.long s.point) c form) some text;
        size = form_bytes a c (row_form (l.long s.point) (row_of c)) view some;
      }
  kind_has s rest (Mark v m) is form target here text =
      record { lines = All-cons HasItsBytes (line_at None s.item (Mark v m)) [] (λ a i k begins kind. absurd cc) (All-nil HasItsBytes); size = refl }
  kind_has s rest (Phi p n) is form target here text =
      record { lines = All-cons HasItsBytes (line_at None s.item (Phi p n)) [] (λ a i k begins kind. absurd cc) (All-nil HasItsBytes); size = refl }

  sites_have : (ss : List Site) (a : ℕ) (more : List ℕ) → Chained l a ss → ((k : ℕ) (s : Site) → slice_get ss k ≡ Some s →
      fetched l.framed s.point ≡ Here s.item) →
      drop a all ≡ bytes (flat_map (words_at l) ss) ++ more → All HasItsBytes (flat_map (site_lines l) ss)
  sites_have [] a more chain each text = All-nil HasItsBytes
  sites_have (s ∷ ss) a more chain each text =
      let here = each 0 s refl in
      let rest = bytes (flat_map (words_at l) ss) ++ more in
      let parts : drop a all ≡ bytes (words_at l s) ++ rest =
      text ∙ ap (λ (ws : List ℕ). ws ++ more) (flat_map-append (to_le_bytes w32) (words_at l s) (flat_map (words_at l) ss)) ∙
      append_assoc (bytes (words_at l s)) (bytes (flat_map (words_at l) ss)) more in
      let at : drop (address_in l s.point) all ≡ bytes (words_at l s) ++ rest = ap (λ (n : ℕ). drop n all) chain.0 ∙ parts in
      let has = kind_has s rest s.item.kind refl (of_item l.framed IsFormed forms s.point s.item here)
      (of_item l.framed (λ i. TargetsIn ids i.kind) targets s.point s.item here) here at in
      let next : drop (a + size_of (l.long s.point) s.item) all ≡ rest =
      ap (λ (n : ℕ). drop (a + n) all) (sym has.size) ∙ drop_more a (length (bytes (words_at l s))) all ∙
      (ap (drop (length (bytes (words_at l s)))) parts ∙ drop_all (bytes (words_at l s)) rest) in
      All-append HasItsBytes (site_lines l s) (flat_map (site_lines l) ss) has.lines
      (sites_have ss (a + size_of (l.long s.point) s.item) more chain.1 (λ k x e. each (suc k) x e) next)

  -- ---- all lines

  site_stands : (k : ℕ) (s : Site) → slice_get (sites_of l.framed) k ≡ Some s → fetched l.framed s.point ≡ Here s.item
  site_stands k s e =
      let p = settled.placed 0 l.framed.blocks k s e in
      let b : p.counted ≡ p.block = (let q = p.is in omega (arith, q)) in
      ap (fetched l.framed) p.point ∙ ap (λ (n : ℕ). fetched l.framed (pos_in n p.index)) b
      ∙ settled.fetched l.framed.blocks p.block p.index s.item p.item

  lines_from : (b : ℕ) (blocks : List Block) → flat_map (λ x. x.lines) (blocks_listed l b blocks) ≡ flat_map (site_lines l) (sites_from b blocks)
  lines_from b [] = refl
  lines_from b (block ∷ blocks) =
      ap (λ (t : List Line). items_listed l b block.items ++ t) (lines_from (suc b) blocks) ∙
      sym (flat_map-append (site_lines l) (sites_in b 0 block.items) (sites_from (suc b) blocks))

  pub lines_have : (more : List ℕ) → IsFramed l.framed → drop l.base all ≡ bytes (words_of l) ++ more → All HasItsBytes (lines_of f)
  lines_have more framed text =
      let lines : lines_of f ≡ flat_map (site_lines l) (sites_of l.framed) =
      ap (λ (bs : List ListedBlock). flat_map (λ (b : ListedBlock). b.lines) bs) (blocks_whole l variables substitutions framed) ∙
      lines_from 0 l.framed.blocks in
      subst (All HasItsBytes) (sym lines) (sites_have (sites_of l.framed) l.base more (chained l) site_stands text)

-- ---- all functions

module _ (names : ℕ → List ℕ) (o : Output) (lists : List (List Range)) (section : IsSection o.loclists lists) (passed : PassedFunction) (f : ListedFunction)
    (is : IsPassedFunction passed) (c : IsCompiledIn names o.text lists passed f) where
  words_of_function : HaveWordsOf o f
  words_of_function =
      let l = c.compiled.layout in
      let vs = variable_lines names c.first (variables_of_function passed.source.function.blocks) in
      let ok = framed names o lists section passed f is c in
      let fm = formed names o lists section passed f is c in
      let text = ap (λ (n : ℕ). drop n o.text) c.compiled.laid.from ∙ c.words in
      let have = lines_have l vs passed.substitutions o.text fm ok.targets c.compiled.laid.worded c.more ok text in
      subst (HaveWordsOf o) (sym c.compiled.listed) (record {
        items = λ n x a i k at begins kind.
            all_at (HasItsBytes l vs passed.substitutions o.text fm ok.targets c.compiled.laid.worded) (lines_of (listing_of l vs passed.substitutions)) n
            (OfItem x) at have a i k begins kind;
        skips = λ n s at.
            all_at (HasItsBytes l vs passed.substitutions o.text fm ok.targets c.compiled.laid.worded) (lines_of (listing_of l vs passed.substitutions)) n
            (Skip s) at have;
      })

pub compiled_has_words : CompiledHasWords
compiled_has_words names functions o are =
    for_each (HaveWordsOf o) names functions o are (λ passed f is c. words_of_function names o are.compiled.lists are.compiled.section passed f is c)
