-- The order of requests in a sheet, by their parts.
use Rattle.std.specs.Cmp.Lexicographic.{slice_cmp}
use Rattle.std.specs.Ordering.{nat_cmp, ordering_then}
use Rattle.std.specs.declared.cmp.Ordering.{Ordering}
use Rattle.std.specs.declared.cmp.Ordering.TheVariants.{Less, Equal, Greater}
use Rattle.ots_sheet.specs.declared.request.Kind.{Kind}
use Rattle.ots_sheet.specs.declared.request.Kind.TheVariants.{Get, Post}
use Rattle.ots_sheet.specs.Request.{RequestParts}

abbrev pub kind_order : Kind → Kind → Ordering
kind_order Get Get = Equal
kind_order Get Post = Less
kind_order Post Get = Greater
kind_order Post Post = Equal

-- the order of the URLs, and then that of the messages
abbrev pub alike_order : RequestParts → RequestParts → Ordering
alike_order a b = ordering_then (slice_cmp nat_cmp a.url b.url) (slice_cmp nat_cmp a.message b.message)

abbrev pub request_order : RequestParts → RequestParts → Ordering
request_order a b = ordering_then (kind_order a.kind b.kind) (alike_order a b)
