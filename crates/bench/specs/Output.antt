-- The output buffer, and lines put into it one behind the other.
-- Assumes nothing.
use Rattle.std.specs.Prelude.{ℕ, ◌+◌, List, [], ◌∷◌, ◌++◌, leb, length, take, drop}
use Rattle.octets.specs.Pick.{pick}

-- A buffer; its first `filled` octets are lines not yet written out.
pub record Output : Type 0 where
  pub octets : List ℕ
  pub filled : ℕ

-- A line, and the octets that have to be left in the buffer before it is put there.
pub record Line : Type 0 where
  pub room : ℕ
  pub text : List ℕ

abbrev pub up_to : List ℕ → ℕ → Output
up_to l n = record { octets = l; filled = n }

-- Most lines ask for 64 octets.
abbrev pub short : List ℕ → Line
short vs = record { room = 64; text = vs }

-- A line goes behind those that are there; the octets behind it stay. Where there is too little room nothing is put.
unfoldable pub put_of : Line → Output → Output
put_of v o =
    pick (leb (o.filled + v.room) (length o.octets))
    (up_to (take o.filled o.octets ++ v.text ++ drop (o.filled + length v.text) o.octets) (o.filled + length v.text))
    o

-- Lines, each behind the one before.
unfoldable pub put_all : List Line → Output → Output
put_all [] o = o
put_all (v ∷ vs) o = put_all vs (put_of v o)

-- What lies in the buffer to be written out; what lines have to say, and the room that they all ask for.
abbrev pub pending : Output → List ℕ
pending o = take o.filled o.octets

unfoldable pub said : List Line → List ℕ
said [] = []
said (v ∷ vs) = v.text ++ said vs

unfoldable pub room_for : List Line → ℕ
room_for [] = 0
room_for (v ∷ vs) = v.room + room_for vs
