use Rattle.std.proofs.Common.{sym}
use Rattle.nf_session.specs.Connections.{scene}
use Rattle.nf_session.proofs.Turns.{says_so}
use Rattle.nf_session.proofs.session.Connection.write_response.Goals as goal

pub returns-in-Made-clause-writes : goal.returns-in-Made-clause-writes
returns-in-Made-clause-writes g c = rw c.in-Made.is
    (says_so (scene g.S.Ends g.O.Ends g.B.Backend c.args.self.now) (scene g.S.Ends g.O.Ends g.B.Backend c.say-in-Made.new.self)
    (λ v. v.items) _ c.made.result c.say-in-Made.result c.made.ensures c.say-in-Made.ensures.ok c.say-in-Made.ensures.err)

pub returns-in-Listing-clause-writes : goal.returns-in-Listing-clause-writes
returns-in-Listing-clause-writes g c = rw c.in-Listing.is
    (says_so (scene g.S.Ends g.O.Ends g.B.Backend c.args.self.now) (scene g.S.Ends g.O.Ends g.B.Backend c.say-in-Listing.new.self)
    (λ v. v.items) _ c.listing.result c.say-in-Listing.result c.listing.ensures c.say-in-Listing.ensures.ok c.say-in-Listing.ensures.err)

pub returns-in-Done-clause-writes : goal.returns-in-Done-clause-writes
returns-in-Done-clause-writes g c = rw c.in-Done.is
    (says_so (scene g.S.Ends g.O.Ends g.B.Backend c.args.self.now) (scene g.S.Ends g.O.Ends g.B.Backend c.say-in-Done.new.self)
    (λ v. v.items) _ c.done.result c.say-in-Done.result c.done.ensures c.say-in-Done.ensures.ok c.say-in-Done.ensures.err)

pub returns-in-Lost-clause-writes : goal.returns-in-Lost-clause-writes
returns-in-Lost-clause-writes g c = rw c.in-Lost.is
    (says_so (scene g.S.Ends g.O.Ends g.B.Backend c.args.self.now) (scene g.S.Ends g.O.Ends g.B.Backend c.say-in-Lost.new.self)
    (λ v. v.items) _ c.refusal-in-Lost.result c.say-in-Lost.result
    (rw (sym c.denial.ensures) c.refusal-in-Lost.ensures) c.say-in-Lost.ensures.ok c.say-in-Lost.ensures.err)

pub returns-in-Share-clause-writes : goal.returns-in-Share-clause-writes
returns-in-Share-clause-writes g c = rw c.in-Share.is
    (says_so (scene g.S.Ends g.O.Ends g.B.Backend c.args.self.now) (scene g.S.Ends g.O.Ends g.B.Backend c.say-in-Share.new.self)
    (λ v. v.items) _ c.share.result c.say-in-Share.result c.share.ensures c.say-in-Share.ensures.ok c.say-in-Share.ensures.err)

pub returns-in-Shares-clause-writes : goal.returns-in-Shares-clause-writes
returns-in-Shares-clause-writes g c = rw c.in-Shares.is
    (says_so (scene g.S.Ends g.O.Ends g.B.Backend c.args.self.now) (scene g.S.Ends g.O.Ends g.B.Backend c.say-in-Shares.new.self)
    (λ v. v.items) _ c.shares.result c.say-in-Shares.result c.shares.ensures c.say-in-Shares.ensures.ok c.say-in-Shares.ensures.err)

pub returns-in-Items-clause-writes : goal.returns-in-Items-clause-writes
returns-in-Items-clause-writes g c = rw c.in-Items.is
    (says_so (scene g.S.Ends g.O.Ends g.B.Backend c.args.self.now) (scene g.S.Ends g.O.Ends g.B.Backend c.say-in-Items.new.self)
    (λ v. v.items) _ c.items.result c.say-in-Items.result c.items.ensures c.say-in-Items.ensures.ok c.say-in-Items.ensures.err)

pub returns-in-Versions-clause-writes : goal.returns-in-Versions-clause-writes
returns-in-Versions-clause-writes g c = rw c.in-Versions.is
    (says_so (scene g.S.Ends g.O.Ends g.B.Backend c.args.self.now) (scene g.S.Ends g.O.Ends g.B.Backend c.say-in-Versions.new.self)
    (λ v. v.items) _ c.versions.result c.say-in-Versions.result c.versions.ensures c.say-in-Versions.ensures.ok c.say-in-Versions.ensures.err)

pub returns-in-Plain-clause-writes : goal.returns-in-Plain-clause-writes
returns-in-Plain-clause-writes g c = rw c.in-Plain.is
    (says_so (scene g.S.Ends g.O.Ends g.B.Backend c.args.self.now) (scene g.S.Ends g.O.Ends g.B.Backend c.say-in-Plain.new.self)
    (λ v. v.items) _ c.plain.result c.say-in-Plain.result c.plain.ensures c.say-in-Plain.ensures.ok c.say-in-Plain.ensures.err)
