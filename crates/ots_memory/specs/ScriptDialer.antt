-- What a dialer in memory tells, by what it holds.
use Rattle.ots_memory.specs.Conversations.{conversations_told}
use Rattle.ots_memory.specs.ScriptDialerTold.{ScriptDialerTold}
use Rattle.ots_memory.specs.declared.script_dialer.ScriptDialer.{ScriptDialer}

-- All that it tells.
abbrev pub tells : ScriptDialer → ScriptDialerTold
tells dialer = conversations_told dialer.replies.items dialer.conversations.items dialer.room dialer.calls dialer.faults
