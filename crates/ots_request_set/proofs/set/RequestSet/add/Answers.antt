use Rattle.std.proofs.Common.{arith, ◌≡◌, ◌<◌, ◌∷◌, ◌∙◌, [], ap, sym, get_or, length, map, ℕ, List}
use Rattle.hex.specs.Hex.{IsBytes}
use Rattle.ots_calendar_url.specs.CalendarUrl.{text_of}
use Rattle.ots_sheet.specs.Request.{RequestParts}
use Rattle.ots_request_set.specs.inner.Key.{line_length}
use Rattle.ots_request_set.proofs.Kept.{adds, few_urls, kept_more, new_key, place_in, place_small, same_text_at}
use Rattle.ots_request_set.proofs.set.RequestSet.add.Goals as goal

pub rank_of-requires : goal.rank_of-requires
rank_of-requires c = few_urls c.self.inside.urls.items _ _ _ _ c.self.invariant c.deref.ensures.value

pub overflow_cast-head : goal.overflow_cast-head
overflow_cast-head c = let small = place_small c.self.inside.urls.items _ _ _ c.args.url c.self.invariant (place_in _ _ c.args.url c.self.view_is c.requires.place) in omega (arith, small)

pub bounds-self-inside-url : goal.bounds-self-inside-url
bounds-self-inside-url c = place_small c.self.inside.urls.items _ _ _ c.args.url c.self.invariant (place_in _ _ c.args.url c.self.view_is c.requires.place)

pub bounds-self-inside-url-2 : goal.bounds-self-inside-url-2
bounds-self-inside-url-2 c = place_small c.self.inside.urls.items _ _ _ c.args.url c.self.invariant (place_in _ _ c.args.url c.self.view_is c.requires.place)

pub returns-then-len-before-clause-added : goal.returns-then-len-before-clause-added
returns-then-len-before-clause-added c =
    let bytes : IsBytes c.args.message.now = λ i. let fits = c.type_inv.message i in omega (arith, fits) in
    let within = place_in _ _ c.args.url c.self.view_is c.requires.place in
    let new = new_key c.self.inside.urls.items _ c.index.result.now c.args.kind c.args.url c.args.message.now c.text-text.result.now c.in_ok-key.key.items c.kind_byte.result c.rank_of.result
    within c.index.ensures c.text-text.ensures.text c.text-text.ensures.url c.deref.ensures.value c.kind_byte.ensures c.rank_of.ensures c.in_ok-key.ensures c.requires.long bytes in
    adds _ c.args.self.now c.self.inside.urls.items c.self.inside.keys.keys c.insert.new.self.keys c.in_ok-key.key _ _ c.args.kind c.args.url c.args.message.now c.self.view_is
    c.self.invariant new c.len-before.ensures.ordered c.insert.ensures.ordered c.in_ok-insert.ensures.keys

pub returns-clause-added : goal.returns-clause-added
returns-clause-added c =
    let bytes : IsBytes c.args.message.now = λ i. let fits = c.type_inv.message i in omega (arith, fits) in
    let within = place_in _ _ c.args.url c.self.view_is c.requires.place in
    let new = new_key c.self.inside.urls.items _ c.index.result.now c.args.kind c.args.url c.args.message.now c.text-text.result.now c.in_ok-key.key.items c.kind_byte.result c.rank_of.result
    within c.index.ensures c.text-text.ensures.text c.text-text.ensures.url c.deref.ensures.value c.kind_byte.ensures c.rank_of.ensures c.in_ok-key.ensures c.requires.long bytes in
    adds _ c.args.self.now c.self.inside.urls.items c.self.inside.keys.keys c.insert.new.self.keys c.in_ok-key.key _ _ c.args.kind c.args.url c.args.message.now c.self.view_is
    c.self.invariant new c.len-before.ensures.ordered c.insert.ensures.ordered c.in_ok-insert.ensures.keys

pub invariant_of-self-2 : goal.invariant_of-self-2
invariant_of-self-2 c =
    let bytes : IsBytes c.args.message.now = λ i. let fits = c.type_inv.message i in omega (arith, fits) in
    let within = place_in _ _ c.args.url c.self.view_is c.requires.place in
    let new = new_key c.self.inside.urls.items _ c.index.result.now c.args.kind c.args.url c.args.message.now c.text-text.result.now c.in_ok-key.key.items c.kind_byte.result c.rank_of.result
    within c.index.ensures c.text-text.ensures.text c.text-text.ensures.url c.deref.ensures.value c.kind_byte.ensures c.rank_of.ensures c.in_ok-key.ensures c.requires.long bytes in
    let text = same_text_at c.self.inside.urls.items c.index.result.now c.args.url c.text-text.result.now within c.index.ensures c.text-text.ensures.text in
    let line = c.line_length-line.ensures
    ∙ ap (λ (z : List ℕ). let r : RequestParts = record { kind = c.args.kind; url = z; message = c.args.message.now } in line_length r) text in
    kept_more _ c.self.inside.urls.items c.self.inside.keys.keys c.insert.new.self.keys c.in_ok-key.key c.self.inside.counts c.self.inside.bytes c.saturating_add-self-inside.result
    c.line_length-line.result c.args.url _ c.self.invariant new (λ _. get_or (map text_of c.self.inside.urls.items) c.args.url []) c.in_ok-insert.ensures.keys
    (λ e. c.if-len-before.false (c.len.ensures.len ∙ e ∙ sym c.len-before.ensures.len)) c.self.told within line c.saturating_add-self-inside.ensures
