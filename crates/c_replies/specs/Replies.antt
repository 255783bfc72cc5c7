-- A call's outcome as the numbers of a Reply or of a WeekReply. Assumes nothing.
use Rattle.std.specs.Prelude.{ℕ, ◌-◌, Bool, not, List, [], ◌∷◌, ◌++◌, eqb, length, replicate}
use Rattle.image.specs.Outcome.{Outcome, gives, refuses}
use Rattle.c_replies.specs.declared.reply.Reply.{Reply}
use Rattle.c_replies.specs.declared.weeks.WeekReply.{WeekReply}

-- the first number is 0 for a result, which has at most as many values as there is room; what is not used is 0
abbrev pub reply_in : ℕ → Outcome → List ℕ
reply_in room (gives values) = 0 ∷ 0 ∷ (values ++ replicate (room - length values) 0)
reply_in room (refuses number place) = number ∷ place ∷ replicate room 0

abbrev pub numbers : Reply → List ℕ
numbers r = r.refusal ∷ r.place ∷ r.v0 ∷ r.v1 ∷ r.v2 ∷ r.v3 ∷ r.v4 ∷ r.v5 ∷ []

-- a Reply has room for six values
abbrev pub reply_of : Outcome → List ℕ
reply_of = reply_in 6

abbrev pub week_numbers : WeekReply → List ℕ
week_numbers r = r.refusal ∷ r.place ∷ r.roads ∷ []

-- a WeekReply for one: the number of closed roads
abbrev pub week_reply_of : Outcome → List ℕ
week_reply_of = reply_in 1

-- what the number `close` of an event asks for: 0 opens the arc, any other number closes it
abbrev pub closes : ℕ → Bool
closes close = not (eqb close 0)
