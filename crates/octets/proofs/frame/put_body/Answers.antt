-- `octets::frame::put_body` meets its contract: the fields of each kind of body, one behind the other.
-- Assumes nothing.
use Rattle.octets.proofs.Stores.{then}
use Rattle.octets.specs.Field.{octets}
use Rattle.octets.specs.Frame.{body_of, comeback_element}
use mathlib.Core.Path.{refl}
use Rattle.octets.proofs.frame.put_body.Goals as goal

pub returns-in-Authentication : goal.returns-in-Authentication
unfolding octets body_of
returns-in-Authentication c =
    rw c.in-Authentication.is (refl, (then (then c.put_u16.ensures c.put_u16-in-Authentication.ensures refl) c.put_u16-in-Authentication-2.ensures refl))

pub returns-in-AssociationRequest : goal.returns-in-AssociationRequest
unfolding octets body_of
returns-in-AssociationRequest c =
    rw c.in-AssociationRequest.is (refl, (then c.put_u16-in-AssociationRequest.ensures c.put_u16-in-AssociationRequest-2.ensures refl))

pub returns-in-ReassociationRequest : goal.returns-in-ReassociationRequest
unfolding octets body_of
returns-in-ReassociationRequest c =
    rw c.in-ReassociationRequest.is (refl, (then (then c.put_u16-in-ReassociationRequest.ensures c.put_u16-in-ReassociationRequest-2.ensures refl) c.put_address.ensures refl))

pub returns-in-Response : goal.returns-in-Response
unfolding octets body_of
returns-in-Response c =
    rw c.in-Response.is
    (refl, then (then c.put_u16-in-Response.ensures c.put_u16-in-Response-2.ensures refl) (rw (← c.aid_field.ensures) c.put_u16-in-Response-3.ensures) refl)

pub returns-in-Later : goal.returns-in-Later
unfolding octets body_of comeback_element
returns-in-Later c =
    rw c.in-Later.is
    (refl, then (then (then c.put_u16-in-Later.ensures c.put_u16-in-Later-2.ensures refl) c.put_u16-in-Later-3.ensures refl) c.put_comeback.ensures refl)

pub returns-in-Reason : goal.returns-in-Reason
unfolding octets body_of
returns-in-Reason c =
    rw c.in-Reason.is (refl, c.put_u16-in-Reason.ensures)

pub returns-in-Query : goal.returns-in-Query
unfolding octets body_of
returns-in-Query c =
    rw c.in-Query.is
    (refl, then (then c.put_octet.ensures c.put_octet-in-Query.ensures refl) c.put_u16-in-Query.ensures refl)
