use Rattle.nf_server.proofs.workers.serve_next.Goals as goal

pub returns-clause-serves : goal.returns-clause-serves
returns-clause-serves g c =
    let said = c.serve_link-served.ensures in
    record {
      after = c.serve_link-served.new.link;
      serves = record {
        steady_is = said.steady;
        kept = said.session.0;
        few = said.session.1;
        session = said.session.2;
        full = said.full;
        told = said.seat.told;
      };
      back = c.back.ensures.served;
      coming = c.back.ensures.coming;
      faults = c.back.ensures.faults;
    }
