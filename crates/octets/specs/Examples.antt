-- Worked examples of the definitions, computed.
-- Assumes nothing.
use Rattle.std.specs.Prelude.{◌≡◌, refl, true, false, [], ◌∷◌, Some, None}
use Rattle.octets.specs.Field.{octets}
use Rattle.octets.specs.Element.{ends, walk}
use Rattle.octets.specs.Frame.{aid_field, head_of, body_of, bytes_of}
use Rattle.octets.specs.declared.frame.Body.TheVariants.{Response, Reason}

-- A comeback of 0 is a time.
comeback_zero : walk (1 ∷ 1 ∷ 9 ∷ 56 ∷ 5 ∷ 3 ∷ 0 ∷ 0 ∷ 0 ∷ 0 ∷ []) 0 ≡ Some 0
unfolding walk
comeback_zero = refl

-- An element that is cut short gives none.
comeback_cut : walk (56 ∷ 5 ∷ 3 ∷ 0 ∷ []) 0 ≡ None
unfolding walk
comeback_cut = refl

-- Another type, another length, then the one that counts.
comeback_third : walk (56 ∷ 5 ∷ 1 ∷ 9 ∷ 9 ∷ 9 ∷ 9 ∷ 56 ∷ 1 ∷ 3 ∷ 56 ∷ 5 ∷ 3 ∷ 0 ∷ 1 ∷ 0 ∷ 0 ∷ 7 ∷ []) 0 ≡ Some 256
unfolding walk
comeback_third = refl

-- 02, K7: whole elements end with the frame; a cut one does not, nor does an id alone.
whole_ends : ends (1 ∷ 1 ∷ 9 ∷ 56 ∷ 5 ∷ 3 ∷ 0 ∷ 0 ∷ 0 ∷ 0 ∷ []) 0 ≡ true
unfolding ends
whole_ends = refl

cut_passes : ends (56 ∷ 5 ∷ 3 ∷ 0 ∷ []) 0 ≡ false
unfolding ends
cut_passes = refl

id_alone : ends (0 ∷ 0 ∷ 7 ∷ []) 0 ≡ false
unfolding ends
id_alone = refl

deauthentication_written :
    bytes_of (record { subtype = 12; address1 = 0x060504030202; address2 = 0x0a; address3 = 0x0a; body = Reason 7 })
    ≡ 0xc0 ∷ 0 ∷ 0 ∷ 0 ∷ 2 ∷ 2 ∷ 3 ∷ 4 ∷ 5 ∷ 6 ∷ 10 ∷ 0 ∷ 0 ∷ 0 ∷ 0 ∷ 0 ∷ 10 ∷ 0 ∷ 0 ∷ 0 ∷ 0 ∷ 0 ∷ 0 ∷ 0 ∷ 7 ∷ 0 ∷ []
unfolding octets head_of body_of bytes_of
deauthentication_written = refl

-- AID 1 is written 01 C0, capability 0011 as 11 00.
response_body : body_of (Response 0x0011 0 1) ≡ 0x11 ∷ 0 ∷ 0 ∷ 0 ∷ 0x01 ∷ 0xc0 ∷ []
unfolding octets body_of aid_field
response_body = refl
