-- 01, A received frame, 6: the class filter. p is the peer's record, fresh where it has none: "A peer without a record counts as State 1."
-- Assumes nothing.
use Rattle.std.specs.Prelude.{ℕ, Bool, true, false, not, ◌&&◌, ◌||◌, ◌==◌, nat_le, Option, None}
use Rattle.octets.specs.Pick.{pick}
use Rattle.octets.specs.declared.class.FrameClass.TheVariants as class
use Rattle.octets.specs.declared.class.FrameClass.{FrameClass}
use Rattle.octets.specs.declared.frame.Frame.{Frame}
use Rattle.octets.specs.declared.heard.Heard.TheVariants as heard
use Rattle.octets.specs.declared.heard.Heard.{Heard}
use Rattle.octets.specs.declared.heard.Kind.{Kind}
use Rattle.peer.specs.Codes.{reason_class2, reason_class3, status_refused}
use Rattle.peer.specs.Reply.{deauthentication_to, disassociation_to, response_to}
use Rattle.peer.specs.Settings.{ap, role_associates}
use Rattle.peer.specs.declared.record.Record.{Record}
use Rattle.peer.specs.declared.settings.Settings.{Settings}

-- 6. "Class 1 passes, class 2 in State 2 and above, class 3 in State 3 and above (001)." 02, K10: "all other data, PS-Poll and class 2 frames
-- are discarded at step 6": where nobody associates, class 1 alone passes, in State 2 too.
abbrev pub passes_of : ℕ → FrameClass → ℕ → Bool
passes_of role class.None state = false
passes_of role class.One state = true
passes_of role class.Two state = role_associates role && nat_le 2 state
passes_of role class.Three state = role_associates role && nat_le 3 state

-- "class 2, Deauthentication reason 6; class 3 in State 1, Deauthentication reason 7; class 3 in State 2, Disassociation reason 7"
abbrev pub filtered_of : Settings → Record → FrameClass → Option Frame
filtered_of s p class.None = None
filtered_of s p class.One = None
filtered_of s p class.Two = deauthentication_to s p.address reason_class2
filtered_of s p class.Three =
    pick (p.state == 1) (deauthentication_to s p.address reason_class3) (disassociation_to s p.address reason_class3)

-- "Exception (000): an AP replies to an individually addressed (re)association request in State 1 with the matching response, status 1,
-- AID 0". (Of class 2, it is kept out in State 1 only.)
unfoldable pub request_barred : Settings → Record → FrameClass → Kind → Option Frame
request_barred s p k kind = pick (s.role == ap) (response_to s p.address kind status_refused 0) (filtered_of s p k)

abbrev pub barred_by : Settings → Record → FrameClass → Heard → Option Frame
barred_by s p k heard.Other = filtered_of s p k
barred_by s p k (heard.Authentication algorithm transaction status) = filtered_of s p k
barred_by s p k (heard.Deauthentication reason) = filtered_of s p k
barred_by s p k (heard.Disassociation reason) = filtered_of s p k
barred_by s p k (heard.Request kind current) = request_barred s p k kind
barred_by s p k (heard.Response kind status aid comeback) = filtered_of s p k
barred_by s p k (heard.QueryRequest identifier) = filtered_of s p k
barred_by s p k (heard.QueryResponse identifier) = filtered_of s p k

-- "Otherwise discard, and if Address 1 is individual reply"; 02, K10: "with no reply", where nobody associates
unfoldable pub barred_of : Settings → Record → FrameClass → Bool → Heard → Option Frame
barred_of s p k group h = pick (group || not (role_associates s.role)) None (barred_by s p k h)
