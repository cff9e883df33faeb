use Rattle.vend_commands.proofs.serving.hold.Goals as goal

pub returns-clause-held : goal.returns-clause-held
returns-clause-held g c =
    let converses = c.run_over-end.ensures.converses.2 in
    record {
      reader = c.in-Some.reader;
      writer = c.in-Some.writer;
      line = c.in-Some.line;
      read = c.run_over-end.new.reader;
      written = c.run_over-end.new.writer;
      used = c.run_over-end.new.line;
      end = c.run_over-end.result;
      held = c.accept.new.self;
      accepted = c.in-Some.ensures.accepts;
      run = converses.run;
      paced = (
        c.run_over-end.ensures.converses.0,
        c.run_over-end.ensures.converses.1,
        converses.paced,
        converses.ends,
      );
      clean = converses.clean;
      lives = converses.lives;
      ended = c.end.ensures;
    }
