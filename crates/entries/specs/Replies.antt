-- What a book replies to an entry: a receipt, or the refusal. Assumes nothing.
use Rattle.std.specs.Prelude.{Result}
use Rattle.entries.specs.declared.refusal.Refusal.{Refusal}
use Rattle.entries.specs.declared.reply.Receipt.{Receipt}

-- the alias `Reply` of the code
abbrev pub Reply : Type 0
Reply = Result Receipt Refusal
