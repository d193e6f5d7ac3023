-- Lemmas on the time of a conversation.
use Rattle.std.proofs.Common.{◌≡◌, Option, None, Some, Result, Err, is_some, refl, rules}
use Rattle.ots_real.specs.Sockets.{KeepsTime}
use Rattle.ots_real.specs.TimeLimit.{Runs}
use Rattle.ots_real.specs.declared.time_limit.TimeLimit.{TimeLimit}

-- What calls that were cut short leave.
pub record Tried {S : Type 0} (stream stream_after : Option S) (own own_after other other_after : TimeLimit) : Type 0 where
  pub runs : Runs own own_after
  pub other_way : other_after ≡ other
  pub stays_open : is_some stream_after ≡ is_some stream

runs_trans : (a b c : TimeLimit) → Runs a b → Runs b c → Runs a c
runs_trans a b c first second = record {
  length = rw (second.length) (first.length);
  began = λ some. rw (second.began (rw (first.began some) some)) (first.began some);
}

none_stays : {S : Type 0} (x y : Option S) → is_some y ≡ is_some x → x ≡ None → y ≡ None
none_stays None None same is = refl
none_stays None (Some v) same is = search (rules, same)
none_stays (Some v) y same is = search (rules, is)

pub tried_none : {S : Type 0} (stream : Option S) (own other : TimeLimit) → Tried stream stream own own other other
tried_none stream own other = record {
  runs = record { length = refl; began = λ some. refl };
  other_way = refl;
  stays_open = refl;
}

pub tried_more : {S Answer Failure : Type 0} (s t u : Option S) (a b c x y z : TimeLimit) (result : Result Answer Failure) → KeepsTime t u b c y z result → Tried s t a b x y → Tried s u a c x z
tried_more s t u a b c x y z result call tried = record {
  runs = runs_trans a b c (tried.runs) (call.runs);
  other_way = rw (call.other_way) (tried.other_way);
  stays_open = rw (call.stays_open) (tried.stays_open);
}

pub time_answered : {S Answer Failure : Type 0} (s t u : Option S) (a b c x y z : TimeLimit) (result : Result Answer Failure) → KeepsTime t u b c y z result → Tried s t a b x y → KeepsTime s u a c x z result
time_answered s t u a b c x y z result call tried = record {
  runs = runs_trans a b c (tried.runs) (call.runs);
  begun = call.begun;
  timeout = call.timeout;
  other_way = rw (call.other_way) (tried.other_way);
  stays_open = rw (call.stays_open) (tried.stays_open);
  closed = λ is. call.closed (none_stays s t (tried.stays_open) is);
}

pub time_failed : {S Answer Failure : Type 0} (s t : Option S) (a b x y : TimeLimit) (failure : Failure) → Tried s t a b x y → KeepsTime {Answer = Answer} s t a b x y (Err failure)
time_failed s t a b x y failure tried = record {
  runs = tried.runs;
  begun = search rules;
  timeout = search rules;
  other_way = tried.other_way;
  stays_open = tried.stays_open;
  closed = λ is. search rules;
}

pub ruleset times = (tried_none, tried_more, time_answered, time_failed)
