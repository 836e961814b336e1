-- The bytes of messages, and their names.
use Rattle.std.specs.Prelude.{◌≡◌, ℕ, cond, List, Some, None, codes, Option, Result, MatchResult, ◌==◌}
use Rattle.bus.specs.declared.message.Message.{Message}
use Rattle.bus.specs.declared.message.Message.TheVariants.{CommandComplete, SaveDataPointer, Disconnect, Identify}
use Rattle.bus.specs.declared.message.NoSuchMessage.{NoSuchMessage}

abbrev pub message_byte : Message → ℕ
message_byte CommandComplete = 0
message_byte SaveDataPointer = 2
message_byte Disconnect = 4
message_byte Identify = 128

-- the message of a byte, if it is one
abbrev pub message_of : ℕ → Option Message
message_of b =
    cond (b == 0) (Some CommandComplete) (cond (b == 2) (Some SaveDataPointer)
    (cond (b == 4) (Some Disconnect) (cond (b == 128) (Some Identify) None)))

-- the byte of a message, which leads back to it
abbrev pub MessageByte : Message → ℕ → Type 0
MessageByte m b = (b ≡ message_byte m) × (message_of b ≡ Some m)

-- what a byte says: a message, or none, and then the byte is handed back
abbrev pub MessageOf : ℕ → Result Message NoSuchMessage → Type 0
MessageOf b r = MatchResult r (λ m. (message_of b ≡ Some m) × (message_byte m ≡ b)) (λ e. (e.0 ≡ b) × (message_of b ≡ None))

abbrev pub message_name : Message → List ℕ
message_name CommandComplete = codes "Command Complete"
message_name SaveDataPointer = codes "Save Data Pointer"
message_name Disconnect = codes "Disconnect"
message_name Identify = codes "Identify"
