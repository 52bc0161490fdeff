-- The lines of records. Assumes nothing.
use Rattle.std.specs.Prelude.{List, map}
use Rattle.line.specs.Lines.{Line}
use Rattle.vec_store.specs.declared.record.LineRecord.{LineRecord}

abbrev pub record_line : LineRecord → Line
record_line r = r.bytes.items

abbrev pub record_lines : List LineRecord → List Line
record_lines = map record_line
