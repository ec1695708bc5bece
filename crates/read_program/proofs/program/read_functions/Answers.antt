use Rattle.std.proofs.Common.{false, List, [], Result, Ok, Err, subst, rules}
use Rattle.read_documents.specs.declared.parts.FunctionDocument.{FunctionDocument}
use Rattle.read_program.specs.declared.closing.Parsed.{Parsed}
use Rattle.read_program.specs.declared.error.ParseError.{ParseError}
use Rattle.read_program.specs.Closing.{Parses}
use Rattle.read_program.specs.Program.{FunctionsFrom}
use Rattle.read_program.proofs.Functions.{known, full, stopped, goes_on, finished}
use Rattle.read_program.proofs.program.read_functions.Goals as goal

-- a document that stands for none
none : FunctionDocument
none = record {
  opened = 0;
  closed = 0;
  linked = false;
  name = [];
  stack = [];
  fixed = [];
  substitutions = [];
  constants = [];
  twice = [];
  body = [];
}

pub returns-then-len-ge-MAX_FUNCTIONS : goal.returns-then-len-ge-MAX_FUNCTIONS
returns-then-len-ge-MAX_FUNCTIONS c =
    full c.args.meta.now c.args.documents.now c.loop-document.document-index c.document-item.result c.args.functions c.loop-document.functions
    c.loop-document.invariant c.loop-document-test.true c.document-item.is (search rules)

pub returns-in-Err : goal.returns-in-Err
returns-in-Err c =
    let meta = c.args.meta.now in
    let said : Parses meta c.document-item.result (Err c.in-Err.error) =
    subst (λ (r : Result Parsed ParseError). Parses meta c.document-item.result r) c.in-Err.is c.parse.ensures in
    known (List Parsed) c.in-Err.error (FunctionsFrom meta c.args.functions c.args.documents.now (Err c.in-Err.error))
    (stopped meta c.args.documents.now c.loop-document.document-index c.document-item.result c.args.functions c.loop-document.functions
    c.loop-document.invariant c.loop-document-test.true c.document-item.is (search rules) c.in-Err.error said)

pub loop-document-preserved : goal.loop-document-preserved
loop-document-preserved c =
    let meta = c.args.meta.now in
    let said : Parses meta c.document-item.result (Ok c.in-Ok.parsed) =
    subst (λ (r : Result Parsed ParseError). Parses meta c.document-item.result r) c.in-Ok.is c.parse.ensures in
    goes_on meta c.args.documents.now c.loop-document.document-index c.document-item.result c.args.functions c.loop-document.functions
    c.loop-document.invariant c.loop-document-test.true c.document-item.is (search rules) c.in-Ok.parsed said
    c.push.new.self (search rules)

pub returns : goal.returns
returns c =
    finished c.args.meta.now c.args.documents.now c.loop-document.document-index none c.args.functions c.loop-document.functions
    c.loop-document.invariant c.loop-document-test.false
