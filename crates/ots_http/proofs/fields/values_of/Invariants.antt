use Rattle.std.proofs.Common.{map, take}
use Rattle.httparse.specs.Spans.{header_bytes}
use Rattle.ots_http.specs.Fields.{values_of}
use Rattle.ots_http.specs.FieldValues.{AreValues}
use Rattle.ots_http.proofs.fields.values_of.Given as goal

-- It keeps the values of the fields up to here.
abbrev pub invariant-loop-field : goal.invariant-loop-field
invariant-loop-field l = AreValues l.buffer (values_of l.name (map (header_bytes l.buffer) (take l.field-index l.fields))) l.values
