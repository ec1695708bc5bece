-- Code from which control goes to a callee, and the bytes of it where a debugger looks a suspended frame up.
use Rattle.std.specs.Prelude.{ℕ, ◌+◌, Bool, true, false, cond, nat_lt, List, [], Option, Some, None}
use Rattle.rv64_instr.specs.Row.{Row, Callee, Way, Back, Tail, Never, Calls, Returns, row_of, outgoing_words}
use Rattle.mir_func.specs.declared.item.ItemKind.{ItemKind}
use Rattle.mir_func.specs.declared.item.ItemKind.TheVariants.{Code, Mark, Phi}
use Rattle.mir_func.specs.Graph.{Program, Fetch, Here, EndOfBlock, Outside}
use Rattle.emit_code.specs.declared.code.EncodedInstruction.{EncodedInstruction}
use Rattle.location_ranges.specs.Lists.{point_of}

-- control leaves on this way for a callee
abbrev pub way_goes : Way Callee → Bool
way_goes Back = false
way_goes (Tail callee) = true
way_goes (Never callee) = true

-- control goes to a callee: the row calls one, or leaves for one
abbrev pub goes_to_callee : Row → Bool
goes_to_callee (Calls call) = true
goes_to_callee (Returns ending) = way_goes ending.way
goes_to_callee _ = false

-- the frame slots that an item passes on the stack
abbrev pub slots_passed : ItemKind → List ℕ
slots_passed (Code i k) = outgoing_words i.operands
slots_passed (Mark v m) = []
slots_passed (Phi p k) = []

-- control goes to a callee from the item
abbrev pub goes_from : ItemKind → Bool
goes_from (Code i k) = goes_to_callee (row_of i)
goes_from (Mark v m) = false
goes_from (Phi p k) = false

-- the slots that a callee is passed from an item, and None if control doesn't go to one
abbrev pub passed_by : ItemKind → Option (List ℕ)
passed_by kind = cond (goes_from kind) (Some (slots_passed kind)) None

-- the same from what is at a position
abbrev pub passed_at : Fetch → Option (List ℕ)
passed_at (Here item) = passed_by item.kind
passed_at (EndOfBlock k n) = None
passed_at Outside = None

-- where a debugger looks a frame up that is suspended in an entry: at the return address less one, which is in the second word of a site, and is the last
-- byte of a call of one word. From this address on the entry tells of suspended frames
abbrev pub lookup_of : EncodedInstruction → ℕ
lookup_of e = e.address + cond e.call 4 3

-- the slots that a callee is passed from an entry, if the address tells of frames that are suspended in it
abbrev pub suspended_at : Program → EncodedInstruction → (address : ℕ) → Option (List ℕ)
suspended_at g e a = cond (nat_lt a (lookup_of e)) None (passed_at (g.fetch (point_of e)))
