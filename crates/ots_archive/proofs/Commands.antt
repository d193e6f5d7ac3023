-- What is under each name stays, command by command.
use Rattle.std.proofs.Common.{◌≡◌, ◌+◌, ℕ, Bool, true, false, List, [], Option, Some, None, inl, inr, length, map}
use Rattle.std.specs.Prelude.{Result, Ok, Err}
use Rattle.std.specs.List.{range_with_len}
use Rattle.ots_archive.proofs.Stays.{Keeps, Stays, as_before, draws_stays, each_keeps, ends_stays, entries_keeps, gives_keeps, list_keeps, needs_keeps, new_keeps, refuses_stays, room_keeps, tells_keeps, then, then_keeps, tries_keeps}
use Rattle.ots_archive.specs.Run.{Does, DoesIfAny, Ran}
use Rattle.ots_archive_ask.specs.Asks.{AsksProofs, AsksUrls}
use Rattle.ots_archive_ask.specs.Sheet.{TellsSheet, WritesSheet, asked_text}
use Rattle.ots_archive_ask.specs.Total.{Total, TriesAll, TriesEach}
use Rattle.ots_archive_draft.specs.Drafts as draft
use Rattle.ots_archive_draft.specs.Drawing.{DrawsAll, DrawsFor}
use Rattle.ots_archive_draft.specs.Files.{HashesAll, NamesLines, ReadsHash}
use Rattle.ots_archive_draft.specs.Writing.{Batch, TellsMade, WritesAll, WritesAt, draft_name, made_line}
use Rattle.ots_archive_inputs.specs.Inputs.{IsHashOf, RefusesSheet, RefusesSums, RefusesTarget}
use Rattle.ots_archive_steps.specs.Ends.{IfRoom}
use Rattle.ots_archive_steps.specs.Entries.{Entry, ReadsEntries, name_of}
use Rattle.ots_archive_steps.specs.Inputs.{Needs, ReadsList}
use Rattle.ots_archive_steps.specs.Making.{MakesNew}
use Rattle.ots_archive_steps.specs.Printing.{Tells, TellsRefusal}
use Rattle.ots_archive_steps.specs.Proofs.{Tries}
use Rattle.ots_archive_steps.specs.Worst.{worse, worst}
use Rattle.ots_archive_take.specs.Counting.{TellsAll, TellsCounts, counts_text}
use Rattle.ots_archive_take.specs.Making as making
use Rattle.ots_archive_take.specs.Names.{made_name}
use Rattle.ots_archive_take.specs.Takes.{TakesBy, TakesDistinct, TakesEntries, TakesToEnd}
use Rattle.ots_archive_take.specs.Taking.{Job, MakesOf, MakesTaken, TakesAll, TakesOne, TakesTried}
use Rattle.ots_archive_taken.specs.declared.taking.Taken.{Taken}
use Rattle.ots_archive_taken.specs.declared.taking.Taken.TheVariants as taken
use Rattle.ots_archive_text.specs.Refusal.{refusal_text}
use Rattle.ots_archive_text.specs.declared.status.ArchiveStatus.{ArchiveStatus}
use Rattle.ots_archive_text.specs.declared.status.ArchiveStatus.TheVariants.{BadName, BadSums, Exists, NonceFault, TooBig, TooFew, TooManyRequests, Twice, Usage}
use Rattle.ots_archive_words.specs.Words as words
use Rattle.ots_archive_words.specs.declared.limits.TheConstants.{MAX_NAMES}
use Rattle.ots_archive_world.specs.Steps.{Gives, Then}
use Rattle.ots_archive_world.specs.Told.{Told}
use Rattle.ots_calendar_url.specs.CalendarUrl.{text_of}
use Rattle.ots_detached.specs.File.{file_of}
use Rattle.ots_replies.specs.Replies.{IsSheetOf}
use Rattle.ots_sheet.specs.Reply.{Answer}
use Rattle.ots_sheet.specs.Sheet.{request_sheet}
use Rattle.ots_sums.specs.Sums as sums
use Rattle.ots_tree.specs.declared.detached.Detached.{Detached}

refusal_keeps : (name : List ℕ) (status : ArchiveStatus) → Keeps (TellsRefusal name status)
refusal_keeps name status = tells_keeps (λ text. text ≡ refusal_text name status)

-- ---- draft

lines_keeps : (lines : List sums.Entry) → Keeps (NamesLines lines)
lines_keeps lines old new r (NamesLines.few few utf8 is gives) = as_before old new is
lines_keeps lines old new r (NamesLines.many s many refused ends) = refuses_stays [] (BadSums (MAX_NAMES + 1)) old new s refused
lines_keeps lines old new r (NamesLines.no_text before after name s few split good bad refused ends) = refuses_stays name BadName old new s refused
lines_keeps lines old new r (NamesLines.no_memory is ends) = as_before old new is

draw_keeps : (digest : List ℕ) → Keeps (DrawsFor digest)
draw_keeps digest old new (Ok t) (drawn, is) = draws_stays old new (Ok t.nonce) drawn
draw_keeps digest old new (Err s) (mid, f, drawn, refused) = then old mid new (draws_stays old mid (Err f) drawn) (refuses_stays [] NonceFault mid new s refused)

told_keeps : (name : List ℕ) (made : Bool) → Keeps (TellsMade name made)
told_keeps name made old new (Ok told) (tells, is) = tells_keeps (λ text. text ≡ made_line made name) old new (Ok tt) tells
told_keeps name made old new (Err s) tells = tells_keeps (λ text. text ≡ made_line made name) old new (Err s) tells

write_keeps : (b : Batch) (i : ℕ) → Keeps (WritesAt b i)
write_keeps b i old new r (name, proof, is, makes) =
    then_keeps (MakesNew (draft_name name) (file_of proof)) (TellsMade (draft_name name)) (new_keeps (draft_name name) (file_of proof)) (told_keeps (draft_name name)) old new r makes

batch_keeps : (b : Batch) → Keeps (draft.WritesBatch b)
batch_keeps b = then_keeps (WritesAll b) (λ made. Gives (draft.made_status made))
    (each_keeps (λ i. IfRoom (WritesAt b i)) (λ i. room_keeps (WritesAt b i) (write_keeps b i)) (range_with_len 0 (length b.names))) (λ made. gives_keeps (draft.made_status made))

files_keeps : (addresses names digests : List (List ℕ)) → Keeps (draft.DraftsFiles addresses names digests)
files_keeps addresses names digests = then_keeps (DrawsAll digests) (draft.DraftsTargets addresses names)
    (each_keeps (λ d. IfRoom (DrawsFor d)) (λ d. room_keeps (DrawsFor d) (draw_keeps d)) digests)
    (λ targets. room_keeps (draft.WritesBatch (record { addresses = addresses; names = names; targets = targets })) (batch_keeps (record { addresses = addresses; names = names; targets = targets })))

names_keeps : (addresses : List (List ℕ)) (names : words.Names) → Keeps (draft.DraftsNames addresses names)
names_keeps addresses (words.given names) = then_keeps (HashesAll names) (draft.DraftsFiles addresses names)
    (each_keeps (λ name. IfRoom (ReadsHash name)) (λ name. room_keeps (ReadsHash name) (needs_keeps IsHashOf RefusesTarget name)) names) (files_keeps addresses names)
names_keeps addresses (words.sums name) = then_keeps (Needs sums.AreSums RefusesSums name) (draft.DraftsLines addresses) (needs_keeps sums.AreSums RefusesSums name)
    (λ lines. then_keeps (NamesLines lines) (draft.DraftsNamed addresses lines) (lines_keeps lines)
    (λ names. room_keeps (draft.DraftsFiles addresses names (sums.digests lines)) (files_keeps addresses names (sums.digests lines))))

-- ---- ask

each_tried : (entries : List Entry) → Keeps (TriesEach entries)
each_tried entries = each_keeps (λ e. IfRoom (Tries e)) (λ e. room_keeps (Tries e) (tries_keeps e)) entries

all_tried : (urls : List (List ℕ)) (all : Bool) (entries : List Entry) → Keeps (TriesAll urls all entries)
all_tried urls all entries old new (Ok t) (tried, each, is) = each_tried entries old new (Ok tried) each
all_tried urls all entries old new (Err s) each = each_tried entries old new (Err s) each

sheet_told : (name text : List ℕ) (status : ArchiveStatus) (made : Bool) → Keeps (TellsSheet name text status made)
sheet_told name text status true = then_keeps (Tells (λ told. told ≡ text)) (λ done. Gives status) (tells_keeps (λ told. told ≡ text)) (λ done. gives_keeps status)
sheet_told name text status false = then_keeps (TellsRefusal name Exists) (λ done. Gives (worse status Exists)) (refusal_keeps name Exists) (λ done. gives_keeps (worse status Exists))

sheet_keeps : (name : List ℕ) (urls : List (List ℕ)) (t : Total) → Keeps (WritesSheet name urls t)
sheet_keeps name urls t old new r (WritesSheet.fits requests once good makes) =
    then_keeps (MakesNew name (request_sheet requests)) (TellsSheet name (asked_text urls requests t.skipped) t.status) (new_keeps name (request_sheet requests))
    (sheet_told name (asked_text urls requests t.skipped) t.status) old new r makes
sheet_keeps name urls t old new r (WritesSheet.many s many refused ends) = refuses_stays [] TooManyRequests old new s refused

asks_keeps : (a : words.Asking) (urls : List (List ℕ)) → Keeps (AsksUrls a urls)
asks_keeps a urls = then_keeps (ReadsEntries a.names) (λ entries. AsksProofs a.all a.sheet urls entries) (entries_keeps a.names)
    (λ entries. then_keeps (TriesAll urls a.all entries) (λ total. IfRoom (WritesSheet a.sheet urls total)) (all_tried urls a.all entries)
    (λ total. room_keeps (WritesSheet a.sheet urls total) (sheet_keeps a.sheet urls total)))

-- ---- take

counts_keeps : (answers : List Answer) → Keeps (TellsAll answers)
counts_keeps answers old new r (list, are, told) = tells_keeps (λ text. text ≡ counts_text list) old new r told

status_keeps : (T : List ℕ → Type 0) (status : ArchiveStatus) → Keeps (making.TellsStatus T status)
status_keeps T status old new (Ok s) (told, is) = tells_keeps T old new (Ok tt) told
status_keeps T status old new (Err e) told = tells_keeps T old new (Err e) told

refused_keeps : (name : List ℕ) (status : ArchiveStatus) → Keeps (making.TellsRefused name status)
refused_keeps name status old new (Ok s) (told, is) = refusal_keeps name status old new (Ok tt) told
refused_keeps name status old new (Err e) told = refusal_keeps name status old new (Err e) told

made_told : (name : List ℕ) (complete : Bool) (status : ArchiveStatus) (made : Bool) → Keeps (making.TellsMade name complete status made)
made_told name complete status true = status_keeps _ status
made_told name complete status false = refused_keeps name Exists

made_keeps : (name bytes : List ℕ) (complete : Bool) (status : ArchiveStatus) → Keeps (making.MakesProof name bytes complete status)
made_keeps name bytes complete status old new r (making.MakesProof.named utf8 makes) =
    then_keeps (MakesNew name bytes) (making.TellsMade name complete status) (new_keeps name bytes) (made_told name complete status) old new r makes
made_keeps name bytes complete status old new r (making.MakesProof.no_text bad told) = refused_keeps name BadName old new r told

taken_keeps : (least : ℕ) (e : Entry) (name : List ℕ) (t : Taken) → Keeps (MakesTaken least e name t)
taken_keeps least e name (taken.Stamped proof complete) old new r m = made_keeps name (file_of proof) complete _ old new r m
taken_keeps least e name (taken.Upgraded proof complete) old new r m = made_keeps name (file_of proof) complete _ old new r m
taken_keeps least e name (taken.Same complete) old new r m = status_keeps _ _ old new r m
taken_keeps least e name taken.TooBig old new r m = refused_keeps (name_of e) TooBig old new r m
taken_keeps least e name (taken.TooFew got) old new r m = refused_keeps (name_of e) (TooFew got least) old new r m

of_keeps : (j : Job) (e : Entry) (proof : Detached) → Keeps (MakesOf j e proof)
of_keeps j e proof old new r (t, is, makes) = taken_keeps j.least e (made_name j.into e) t old new r makes

tried_keeps : (j : Job) (e : Entry) (tried : Result Detached ArchiveStatus) → Keeps (TakesTried j e tried)
tried_keeps j e (Ok proof) = room_keeps (MakesOf j e proof) (of_keeps j e proof)
tried_keeps j e (Err why) = gives_keeps why

to_end_keeps : (j : Job) (entries : List Entry) → Keeps (TakesToEnd j entries)
to_end_keeps j entries = then_keeps (TakesAll j entries) (λ statuses. Gives (worst statuses))
    (each_keeps (TakesOne j) (λ e. then_keeps (Tries e) (TakesTried j e) (tries_keeps e) (tried_keeps j e)) entries) (λ statuses. gives_keeps (worst statuses))

distinct_keeps : (j : Job) (entries : List Entry) → Keeps (TakesDistinct j entries)
distinct_keeps j entries old new r (TakesDistinct.distinct distinct takes) =
    then_keeps (TellsCounts j.answers) (λ told. TakesToEnd j entries) (room_keeps (TellsAll j.answers) (counts_keeps j.answers)) (λ told. to_end_keeps j entries) old new r takes
distinct_keeps j entries old new r (TakesDistinct.twice place s name refused ends) = refuses_stays name.name Twice old new s refused

by_keeps : (t : words.Taking) (entries : List Entry) → Keeps (TakesEntries t entries)
by_keeps t entries = then_keeps (Needs IsSheetOf RefusesSheet t.replies) (TakesBy t.into t.least entries) (needs_keeps IsSheetOf RefusesSheet t.replies)
    (λ answers. room_keeps (TakesDistinct (record { into = t.into; least = t.least; answers = answers }) entries) (distinct_keeps (record { into = t.into; least = t.least; answers = answers }) entries))

-- ---- runs

does_stays : (c : words.ArchiveCommand) (old new : Told) (s : ArchiveStatus) → Does c old new s → Stays old new
does_stays (words.draft d) old new s does =
    ends_stays (Then (ReadsList d.calendars) (draft.DraftsFor d.names)) (then_keeps (ReadsList d.calendars) (draft.DraftsFor d.names) (list_keeps d.calendars) (λ urls. names_keeps (map text_of urls.items) d.names)) old new s does
does_stays (words.ask a) old new s does =
    ends_stays (Then (ReadsList a.calendars) (λ urls. AsksUrls a (map text_of urls.items)))
    (then_keeps (ReadsList a.calendars) (λ urls. AsksUrls a (map text_of urls.items)) (list_keeps a.calendars) (λ urls. asks_keeps a (map text_of urls.items))) old new s does
does_stays (words.take t) old new s does =
    ends_stays (Then (ReadsEntries t.names) (TakesEntries t)) (then_keeps (ReadsEntries t.names) (TakesEntries t) (entries_keeps t.names) (by_keeps t)) old new s does

if_any_stays : (c : Option words.ArchiveCommand) (old new : Told) (s : ArchiveStatus) → DoesIfAny c old new s → Stays old new
if_any_stays (Some c) old new s does = does_stays c old new s does
if_any_stays None old new s refused = refuses_stays [] Usage old new s refused

pub run_stays : (given : List (List ℕ)) (old new : Told) (s : ArchiveStatus) → Ran given old new s → Stays old new
run_stays given old new s (inl does) = if_any_stays (words.command_of given) old new s does
run_stays given old new s (inr (is, ended)) = as_before old new is
